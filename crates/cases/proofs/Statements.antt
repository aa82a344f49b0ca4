-- Statements that were written are read again.
use Rattle.std.proofs.Common.{◌≡◌, ℕ, ◌<◌, ◌≤◌, List, [], ◌∷◌, ◌++◌, length, Option, Some, None, refl, sym, ap, subst, ◌∙◌, arith, lit≤, inl, inr}
use Rattle.std.specs.Prelude.{IfSome, flat_map, ◌^◌, bytes_eq}
use Rattle.std.proofs.lemmas.Slice.Eq.{bytes_eq-Decides}
use Rattle.std.proofs.lemmas.Bool.{cases_Bool}
use Rattle.vocabulary.specs.declared.kind.Kind.{Kind}
use Rattle.vocabulary.specs.declared.kind.Kind.TheVariants as kind
use Rattle.cases.specs.Words.{word_text}
use Rattle.cases.specs.Spelling.{operand_text, call_word, call_operands, kind_operands, first_word, operands, tail, spelled, escaped, quoted, or_none, report}
use Rattle.cases.specs.Valid.{IsName, IsError, IsCall, MayHave, IsStatement, IsText}
use Rattle.cases.specs.Reading.{before, after, ◌>>=◌, maybe_at, error_at, report_at, class_at, word_at, names_at, call_at, kind_at, statement_at}
use Rattle.cases.proofs.Words.{Match, nexts, nexts_match, first_is, quoted_is, clean_fixed, IsTail, AreOperands, IsOperand, reads_place, reads_error, reads_name, reads_report, reads_basket, reads_chain, reads_word, reads_class, reads_io}
use Rattle.cases.specs.declared.call.Call.{Call}
use Rattle.cases.specs.declared.call.Call.TheVariants as call
use Rattle.cases.specs.declared.operand.Operand.{Operand}
use Rattle.cases.specs.declared.operand.Operand.TheVariants.{Number, Class as Classed}
use Rattle.cases.specs.declared.statement.HostName.TheVariants as host
use Rattle.cases.specs.declared.statement.LayerName.TheVariants as layer
use Rattle.cases.specs.declared.statement.Record.{Record}
use Rattle.cases.specs.declared.statement.Statement.{Statement}
use Rattle.cases.specs.declared.statement.Statement.TheVariants as statement
use Rattle.cases.specs.declared.word.Word.{Word as FixedWord}
use Rattle.cases.specs.declared.word.Word.TheVariants as word
use Rattle.classes.specs.declared.class.Class.{Class}

-- the four words after the first
abbrev words_are : List Operand → (a b c d : List ℕ) → Type 0
words_are os a b c d = Match os (a ∷ b ∷ c ∷ d ∷ [])

maybe_again : {X : Type 0} (f : List ℕ → Option X) (x : X) (w : List ℕ) → f w ≡ Some x → f (word_text word.None) ≡ None → maybe_at f w ≡ Some (Some x)
maybe_again f x w e none =
    elim (cases_Bool (bytes_eq w (word_text word.None))) [
      | inl same ↦
          let w_is : w ≡ word_text word.None = (bytes_eq-Decides w (word_text word.None)).0 same in
          let stuck : f w ≡ None = ap f w_is ∙ none in
          absurd cc
      | inr other ↦ rw (other, e) refl
    ]

maybe_error : (s : Option ℕ) (w : List ℕ) → IfSome s IsError → w ≡ operand_text (or_none Number s) → maybe_at error_at w ≡ Some s
maybe_error None w h e = ap (maybe_at error_at) e
maybe_error (Some n) w h e = maybe_again error_at n w (reads_error n w h e) refl

maybe_report : (s : Option ℕ) (w : List ℕ) → IfSome s IsName → w ≡ operand_text (or_none report s) → maybe_at report_at w ≡ Some s
maybe_report None w h e = ap (maybe_at report_at) e
maybe_report (Some n) w h e = maybe_again report_at n w (reads_report n w h e) refl

maybe_class : (s : Option Class) (w : List ℕ) → w ≡ operand_text (or_none Classed s) → maybe_at class_at w ≡ Some s
maybe_class None w e = ap (maybe_at class_at) e
maybe_class (Some c) w e = maybe_again class_at c w (reads_class c w e) refl

call_again : (x : Call) (a b c d : List ℕ) → IsCall x → words_are (call_operands x) a b c d → call_at (call_word x) a b c d ≡ Some x
unfolding call_at names_at
call_again (call.New r e p) a b c d v m = rw (reads_report r a v.0 m.0, reads_error e b v.1 m.1.0, reads_place p c v.2 m.1.1.0) refl
call_again (call.Raise r e p) a b c d v m = rw (reads_report r a v.0 m.0, reads_error e b v.1 m.1.0, reads_place p c v.2 m.1.1.0) refl
call_again (call.RaiseAll r s e p) a b c d v m = rw (reads_report r a v.0 m.0, reads_basket s b v.1 m.1.0, reads_error e c v.2 m.1.1.0, reads_place p d v.3 m.1.1.1.0) refl
call_again (call.Chain r s) a b c d v m = rw (reads_report r a v.0 m.0, reads_report s b v.1 m.1.0) refl
call_again (call.ChainAll r s) a b c d v m = rw (reads_report r a v.0 m.0, reads_basket s b v.1 m.1.0) refl
call_again (call.Basket s) a b c d v m = rw (reads_basket s a v m.0) refl
call_again (call.Collect s r) a b c d v m = rw (reads_basket s a v.0 m.0, reads_report r b v.1 m.1.0) refl
call_again (call.Take s r) a b c d v m = rw (reads_basket s a v.0 m.0, maybe_report r b v.1 m.1.0) refl
call_again (call.DrainChildren r s) a b c d v m = rw (reads_report r a v.0 m.0, reads_basket s b v.1 m.1.0) refl
call_again (call.IntoChain r s) a b c d v m = rw (reads_report r a v.0 m.0, reads_chain s b v.1 m.1.0) refl
call_again (call.IntoExn s r) a b c d v m = rw (reads_chain s a v.0 m.0, reads_report r b v.1 m.1.0) refl
call_again (call.Discard n) a b c d v m = rw (reads_name n a v m.0) refl

-- the name of a record's kind
abbrev kind_word : Kind → FixedWord
kind_word kind.Plain = word.Plain
kind_word (kind.Message c) = word.Message
kind_word (kind.ClassificationMarker c) = word.Marker
kind_word kind.TryReserveError = word.Reserve
kind_word (kind.Io k) = word.Io

kind_again : (k : Kind) (s : Option ℕ) (b c d : List ℕ) → MayHave k s → Match (kind_operands k s) (b ∷ c ∷ d ∷ []) → (b ≡ word_text (kind_word k)) × (kind_at (kind_word k) c d ≡ Some (k, s))
unfolding kind_at
kind_again kind.Plain s b c d v m = (m.0, rw (maybe_error s c v m.1.0) refl)
kind_again (kind.Message x) s b c d v m = (m.0, rw (maybe_class x c m.1.0, v) refl)
kind_again (kind.ClassificationMarker x) s b c d v m = (m.0, rw (reads_class x c m.1.0, maybe_error s d v m.1.1.0) refl)
kind_again kind.TryReserveError s b c d v m = (m.0, rw v refl)
kind_again (kind.Io k) s b c d v m = (m.0, rw (reads_io k c m.1.0, maybe_error s d v m.1.1.0) refl)

call_statement : (x : Call) (a b c d : List ℕ) (full : Kind → Option ℕ → Record) → statement_at (call_word x) a b c d full ≡ (call_at (call_word x) a b c d >>= λ y. Some (statement.Call y))
unfolding statement_at
call_statement (call.Discard n) a b c d full = refl
call_statement _ a b c d full = refl

-- what a record is made of, for statements that have one
abbrev Fills : Statement → (Kind → Option ℕ → Record) → Type 0
Fills (statement.Error n x) full = full x.kind x.source ≡ x
Fills _ full = Unit {0}

statement_again : (x : Statement) (a b c d : List ℕ) (full : Kind → Option ℕ → Record) → IsStatement x → words_are (operands x) a b c d → Fills x full → statement_at (first_word x) a b c d full ≡ Some x
unfolding statement_at
statement_again (statement.Host host.Table) a b c d full v m f = rw (reads_word word.Table a m.0) refl
statement_again (statement.Host host.Drive) a b c d full v m f = rw (reads_word word.Drive a m.0) refl
statement_again (statement.Error n x) a b c d full v m f =
    let k = kind_again x.kind x.source b c d v.1.0 m.1 in
    rw (reads_error n a v.0 m.0, reads_word (kind_word x.kind) b k.0, k.1, f) refl
statement_again (statement.Layer layer.Marker) a b c d full v m f = rw (reads_word word.Marker a m.0) refl
statement_again (statement.Layer layer.Io) a b c d full v m f = rw (reads_word word.Io a m.0) refl
statement_again (statement.Mark e x n) a b c d full v m f = rw (reads_error e a v.0 m.0, reads_class x b m.1.0, reads_error n d v.1 m.1.1.1.0) refl
statement_again (statement.Wrap e x n) a b c d full v m f = rw (reads_error e a v.0 m.0, reads_io x b m.1.0, reads_error n d v.1 m.1.1.1.0) refl
statement_again (statement.Ask r) a b c d full v m f = rw (reads_report r a v m.0) refl
statement_again (statement.Call x) a b c d full v m f = call_statement x a b c d full ∙ rw (call_again x a b c d v m) refl

pub record Four (os : List Operand) : Type 0 where
  pub valid : AreOperands os
  pub few : length os ≤ 4

number : (n : ℕ) → IsError n → n < 2 ^ 32
number n h = omega arith

maybe_number : (s : Option ℕ) → IfSome s IsError → IsOperand (or_none Number s)
maybe_number None h = tt
maybe_number (Some n) h = number n h

maybe_name : (s : Option ℕ) → IfSome s IsName → IsOperand (or_none report s)
maybe_name None h = tt
maybe_name (Some n) h = h

maybe_any : (s : Option Class) → IsOperand (or_none Classed s)
maybe_any None = tt
maybe_any (Some c) = tt

call_four : (x : Call) → IsCall x → Four (call_operands x)
call_four (call.New r e p) v = record { valid = (v.0, (number e v.1, (v.2, tt))); few = lit≤ tt }
call_four (call.Raise r e p) v = record { valid = (v.0, (number e v.1, (v.2, tt))); few = lit≤ tt }
call_four (call.RaiseAll r b e p) v = record { valid = (v.0, (v.1, (number e v.2, (v.3, tt)))); few = lit≤ tt }
call_four (call.Chain r s) v = record { valid = (v.0, (v.1, tt)); few = lit≤ tt }
call_four (call.ChainAll r s) v = record { valid = (v.0, (v.1, tt)); few = lit≤ tt }
call_four (call.Basket b) v = record { valid = (v, tt); few = lit≤ tt }
call_four (call.Collect b r) v = record { valid = (v.0, (v.1, tt)); few = lit≤ tt }
call_four (call.Take b r) v = record { valid = (v.0, (maybe_name r v.1, tt)); few = lit≤ tt }
call_four (call.DrainChildren r b) v = record { valid = (v.0, (v.1, tt)); few = lit≤ tt }
call_four (call.IntoChain r b) v = record { valid = (v.0, (v.1, tt)); few = lit≤ tt }
call_four (call.IntoExn r b) v = record { valid = (v.0, (v.1, tt)); few = lit≤ tt }
call_four (call.Discard n) v = record { valid = (v, tt); few = lit≤ tt }

kind_three : (n : ℕ) (k : Kind) (s : Option ℕ) → IsError n → MayHave k s → Four (Number n ∷ kind_operands k s)
kind_three n kind.Plain s e h = record { valid = (number n e, (tt, (maybe_number s h, tt))); few = lit≤ tt }
kind_three n (kind.Message c) s e h = record { valid = (number n e, (tt, (maybe_any c, tt))); few = lit≤ tt }
kind_three n (kind.ClassificationMarker c) s e h = record { valid = (number n e, (tt, (tt, (maybe_number s h, tt)))); few = lit≤ tt }
kind_three n kind.TryReserveError s e h = record { valid = (number n e, (tt, tt)); few = lit≤ tt }
kind_three n (kind.Io k) s e h = record { valid = (number n e, (tt, (tt, (maybe_number s h, tt)))); few = lit≤ tt }

pub four : (x : Statement) → IsStatement x → Four (operands x)
four (statement.Host h) v = record { valid = (tt, tt); few = lit≤ tt }
four (statement.Error n x) v = kind_three n x.kind x.source v.0 v.1.0
four (statement.Layer l) v = record { valid = (tt, tt); few = lit≤ tt }
four (statement.Mark e c n) v = record { valid = (number e v.0, (tt, (tt, (number n v.1, tt)))); few = lit≤ tt }
four (statement.Wrap e k n) v = record { valid = (number e v.0, (tt, (tt, (number n v.1, tt)))); few = lit≤ tt }
four (statement.Call c) v = call_four c v
four (statement.Ask r) v = record { valid = (v, tt); few = lit≤ tt }

tail_is : (x : Statement) → IsTail (tail x)
tail_is (statement.Error n x) = refl
tail_is _ = tt

-- the text of a line is that of the record, where the line has one
fills : (x : Statement) (bytes : List ℕ) (r : Record) → IsStatement x → bytes ≡ spelled x
    → ((t : List ℕ) → IsText t → after 34 bytes ≡ flat_map escaped t ++ 34 ∷ [] → r.text.items ≡ t)
    → Fills x (λ k s. record { kind = k; source = s; text = r.text })
fills (statement.Error n x) bytes r v e h =
    let behind : after 34 bytes ≡ flat_map escaped x.text.items ++ 34 ∷ [] =
    ap (after 34) e ∙ quoted_is (word_text word.Error) (Number n ∷ kind_operands x.kind x.source) (32 ∷ quoted x.text.items) (clean_fixed word.Error) (kind_three n x.kind x.source v.0 v.1.0).valid in
    let same : r.text.items ≡ x.text.items = h x.text.items v.1.1 behind in
    ap (λ (t : List ℕ). record x { text = record { items = t } }) same
fills _ bytes r v e h = tt

pub record Again (x : Statement) (bytes : List ℕ) (full : Kind → Option ℕ → Record) : Type 0 where
  pub first : word_at (before 32 bytes) ≡ Some (first_word x)
  pub whole : statement_at (first_word x) (before 32 (after 32 bytes)) (before 32 (after 32 (after 32 bytes))) (before 32 (after 32 (after 32 (after 32 bytes)))) (before 32 (after 32 (after 32 (after 32 (after 32 bytes))))) full ≡ Some x

pub read_again : (x : Statement) (bytes : List ℕ) (r : Record) → IsStatement x → bytes ≡ spelled x
    → ((t : List ℕ) → IsText t → after 34 bytes ≡ flat_map escaped t ++ 34 ∷ [] → r.text.items ≡ t)
    → Again x bytes (λ k s. record { kind = k; source = s; text = r.text })
read_again x bytes r v e h =
    let f = four x v in
    let w = word_text (first_word x) in
    let m : Match (operands x) (nexts 4 bytes) = subst (λ (b : List ℕ). Match (operands x) (nexts 4 b)) (sym e) (nexts_match 4 w (operands x) (tail x) (clean_fixed (first_word x)) f.valid f.few (tail_is x)) in
    record {
      first = reads_word (first_word x) (before 32 bytes) (ap (before 32) e ∙ first_is w (operands x) (tail x) (clean_fixed (first_word x)) (tail_is x));
      whole = statement_again x _ _ _ _ (λ k s. record { kind = k; source = s; text = r.text }) v m (fills x bytes r v e h);
    }
