-- Words that were written are read again.
use Rattle.std.proofs.Common.{◌≡◌, ℕ, zero, suc, ◌+◌, ◌*◌, ◌-◌, ◌/◌, ◌%◌, ◌^◌, ◌<◌, ◌≤◌, Bool, true, false, cond, ◌&&◌, eqb, leb, ltb, List, [], ◌∷◌, ◌++◌, length, Option, Some, None, refl, sym, ap, subst, ◌∙◌, append_assoc, arith, lit≤}
use Rattle.std.specs.Prelude.{decimal}
use Rattle.std.proofs.lemmas.Bool.{ne_eqb, eq-eqb}
use Rattle.std.proofs.lemmas.Bool.Decides.{nat_tests}
use Rattle.std.proofs.lemmas.Fmt.{decimal_by_steps}
use Rattle.std.proofs.lemmas.List.Concat.{flat_map-cons}
use Rattle.classes.specs.Class.{class_name}
use Rattle.classes.specs.declared.class.Class.{Class}
use Rattle.classes.specs.declared.class.Class.TheVariants.{ResourceExhaustion}
use Rattle.classes.specs.declared.class.ResourceExhaustionKind.TheVariants.{AllocationLimit, AllocationFailure}
use Rattle.vocabulary.specs.IoKind.{io_name}
use Rattle.vocabulary.specs.declared.io_kind.IoKind.{IoKind}
use Rattle.vocabulary.specs.declared.io_kind.IoKind.TheVariants.{Other}
use Rattle.cases.specs.Words.{word_text}
use Rattle.cases.specs.Spelling.{operand_text, operands_text, name_text, report, basket, chain}
use Rattle.cases.specs.Valid.{IsName, IsError, IsPlace, IsAnyName}
use Rattle.cases.specs.Reading.{before, after, digits_at, number_at, below, error_at, word_at, class_at, io_at, any_name_at, report_at, basket_at, chain_at}
use Rattle.cases.specs.declared.call.Name.{Name}
use Rattle.cases.specs.declared.call.Name.TheVariants as name
use Rattle.cases.specs.declared.operand.Operand.{Operand}
use Rattle.cases.specs.declared.operand.Operand.TheVariants.{Word, Name as Named, Number, Class as Classed, Io}
use Rattle.cases.specs.declared.word.Word.{Word as FixedWord}
use Rattle.cases.specs.declared.word.Word.TheVariants as word

-- ---- words without a blank, a quote or a newline

abbrev pub clean : List ℕ → Bool
clean [] = true
clean (c ∷ cs) = cond (eqb c 32) false (cond (eqb c 34) false (cond (eqb c 10) false (clean cs)))

both : (b : Bool) (x : Bool) → cond b false x ≡ true → (b ≡ false) × (x ≡ true)
both true x e = absurd cc
both false x e = (refl, e)

pub record Clean (c : ℕ) (cs : List ℕ) : Type 0 where
  pub blank : eqb c 32 ≡ false
  pub quote : eqb c 34 ≡ false
  pub newline : eqb c 10 ≡ false
  pub rest : clean cs ≡ true

pub clean_parts : (c : ℕ) (cs : List ℕ) → clean (c ∷ cs) ≡ true → Clean c cs
clean_parts c cs e =
    let p = both (eqb c 32) (cond (eqb c 34) false (cond (eqb c 10) false (clean cs))) e in
    let q = both (eqb c 34) (cond (eqb c 10) false (clean cs)) p.1 in
    let r = both (eqb c 10) (clean cs) q.1 in
    record { blank = p.0; quote = q.0; newline = r.0; rest = r.1 }

-- a digit is clean
clean_push : (cs : List ℕ) (c : ℕ) → clean cs ≡ true → 48 ≤ c → clean (cs ++ c ∷ []) ≡ true
clean_push [] c e h = rw (ne_eqb c 32 (λ e. omega arith), ne_eqb c 34 (λ e. omega arith), ne_eqb c 10 (λ e. omega arith)) refl
clean_push (d ∷ cs) c e h =
    let r = clean_parts d cs e in
    rw (r.blank, r.quote, r.newline) (clean_push cs c r.rest h)

-- what may follow a word
abbrev pub IsTail : List ℕ → Type 0
IsTail [] = Unit {0}
IsTail (b ∷ bs) = b ≡ 32

before_nothing : (x : List ℕ) → IsTail x → before 32 x ≡ []
before_nothing [] h = refl
before_nothing (b ∷ bs) h = rw (eq-eqb b 32 h) refl

pub before_word : (w x : List ℕ) → clean w ≡ true → IsTail x → before 32 (w ++ x) ≡ w
before_word [] x e h = before_nothing x h
before_word (c ∷ cs) x e h =
    let r = clean_parts c cs e in
    rw r.blank (ap (λ (t : List ℕ). c ∷ t) (before_word cs x r.rest h))

pub after_word : (w x : List ℕ) → clean w ≡ true → after 32 (w ++ 32 ∷ x) ≡ x
after_word [] x e = refl
after_word (c ∷ cs) x e =
    let r = clean_parts c cs e in
    rw r.blank (after_word cs x r.rest)

pub past_word : (w x : List ℕ) → clean w ≡ true → after 34 (w ++ x) ≡ after 34 x
past_word [] x e = refl
past_word (c ∷ cs) x e =
    let r = clean_parts c cs e in
    rw r.quote (past_word cs x r.rest)

-- ---- numbers

clean_decimal : (n : ℕ) → n < 2 ^ 64 → clean (decimal n) ≡ true
clean_decimal n h =
    decimal_by_steps (λ n ds. clean ds ≡ true)
    (λ n lt. clean_push [] (48 + n) refl (omega arith))
    (λ n ds le e. clean_push ds (48 + n % 10) e (omega arith))
    n h

some_is : (b : Bool) (x : Option ℕ) (v : ℕ) → cond b x None ≡ Some v → (b ≡ true) × (x ≡ Some v)
some_is true x v e = (refl, e)
some_is false x v e = absurd cc

digits_push : (ds : List ℕ) (k v c : ℕ) → digits_at k ds ≡ Some v → 48 ≤ c → c ≤ 57 → 10 * v + (c - 48) < 2 ^ 32 → digits_at k (ds ++ c ∷ []) ≡ Some (10 * v + (c - 48))
digits_push [] k v c e low high small =
    let same : k ≡ v = cc in
    grind (arith, nat_tests)
digits_push (d ∷ ds) k v c e low high small =
    let next = 10 * k + (d - 48) in
    let p = some_is (leb 48 d && leb d 57 && ltb next (2 ^ 32)) (digits_at next ds) v e in
    rw p.0 (digits_push ds (10 * k + (d - 48)) v c p.1 low high small)

pub number_again : (n : ℕ) → n < 2 ^ 32 → number_at (decimal n) ≡ Some n
number_again n h =
    decimal_by_steps (λ n ds. n < 2 ^ 32 → number_at ds ≡ Some n)
    (λ n lt small. grind (arith, nat_tests))
    (λ n ds le so_far small.
    subst (λ (v : ℕ). digits_at 0 (ds ++ (48 + n % 10) ∷ []) ≡ Some v) (omega arith)
    (digits_push ds 0 (n / 10) (48 + n % 10) (so_far (omega arith)) (omega arith) (omega arith) (omega arith)))
    n (omega arith) h

below_again : (limit n : ℕ) → n < limit → limit ≤ 2 ^ 32 → below limit (decimal n) ≡ Some n
below_again limit n lt le = rw (number_again n (omega arith)) (grind (arith, nat_tests))

-- ---- tables

pub word_again : (w : FixedWord) → word_at (word_text w) ≡ Some w
word_again word.Host = refl
word_again _ = refl

pub class_again : (c : Class) → class_at (class_name c) ≡ Some c
class_again (ResourceExhaustion AllocationLimit) = refl
class_again (ResourceExhaustion AllocationFailure) = refl
class_again _ = refl

pub io_again : (k : IoKind) → io_at (io_name k) ≡ Some k
io_again Other = refl
io_again _ = refl

pub clean_fixed : (w : FixedWord) → clean (word_text w) ≡ true
clean_fixed word.Host = refl
clean_fixed _ = refl

clean_class : (c : Class) → clean (class_name c) ≡ true
clean_class (ResourceExhaustion AllocationLimit) = refl
clean_class (ResourceExhaustion AllocationFailure) = refl
clean_class _ = refl

clean_io : (k : IoKind) → clean (io_name k) ≡ true
clean_io Other = refl
clean_io _ = refl

clean_name : (n : Name) → IsAnyName n → clean (name_text n) ≡ true
clean_name (name.Report n) h = clean_decimal n (omega arith)
clean_name (name.Basket n) h = clean_decimal n (omega arith)
clean_name (name.Chain n) h = clean_decimal n (omega arith)

-- operands with values that lines may have
abbrev pub IsOperand : Operand → Type 0
IsOperand (Word w) = Unit {0}
IsOperand (Named n) = IsAnyName n
IsOperand (Number n) = IsPlace n
IsOperand (Classed c) = Unit {0}
IsOperand (Io k) = Unit {0}

pub clean_operand : (o : Operand) → IsOperand o → clean (operand_text o) ≡ true
clean_operand (Word w) h = clean_fixed w
clean_operand (Named n) h = clean_name n h
clean_operand (Number n) h = clean_decimal n (omega arith)
clean_operand (Classed c) h = clean_class c
clean_operand (Io k) h = clean_io k

-- ---- the words of a line

abbrev pub AreOperands : List Operand → Type 0
AreOperands [] = Unit {0}
AreOperands (o ∷ os) = IsOperand o × AreOperands os

operands_cons : (o : Operand) (os : List Operand) (t : List ℕ) → operands_text (o ∷ os) ++ t ≡ 32 ∷ (operand_text o ++ (operands_text os ++ t))
operands_cons o os t = ap (λ (x : List ℕ). x ++ t) (flat_map-cons (λ (o : Operand). 32 ∷ operand_text o) o os) ∙ ap (λ (x : List ℕ). 32 ∷ x) (append_assoc (operand_text o) (operands_text os) t)

operands_tail : (os : List Operand) (t : List ℕ) → IsTail t → IsTail (operands_text os ++ t)
operands_tail [] t h = h
operands_tail (o ∷ os) t h = refl

-- the first word of a line
pub first_is : (w : List ℕ) (os : List Operand) (t : List ℕ) → clean w ≡ true → IsTail t → before 32 (w ++ (operands_text os ++ t)) ≡ w
first_is w os t e h = before_word w (operands_text os ++ t) e (operands_tail os t h)

-- the words after it
abbrev pub nexts : ℕ → List ℕ → List (List ℕ)
nexts zero bytes = []
nexts (suc n) bytes = before 32 (after 32 bytes) ∷ nexts n (after 32 bytes)

-- the first words are the operands'
abbrev pub Match : List Operand → List (List ℕ) → Type 0
Match [] ws = Unit {0}
Match (o ∷ os) [] = ⊥
Match (o ∷ os) (w ∷ ws) = (w ≡ operand_text o) × Match os ws

pub nexts_match : (n : ℕ) (w : List ℕ) (os : List Operand) (t : List ℕ) → clean w ≡ true → AreOperands os → length os ≤ n → IsTail t → Match os (nexts n (w ++ (operands_text os ++ t)))
nexts_match n w [] t e valid le h = tt
nexts_match zero w (o ∷ os) t e valid le h = absurd (omega arith)
nexts_match (suc n) w (o ∷ os) t e valid le h =
    let rest : after 32 (w ++ (operands_text (o ∷ os) ++ t)) ≡ operand_text o ++ (operands_text os ++ t) =
    ap (λ (x : List ℕ). after 32 (w ++ x)) (operands_cons o os t) ∙ after_word w (operand_text o ++ (operands_text os ++ t)) e in
    let clean_o = clean_operand o valid.0 in (
      ap (before 32) rest ∙ first_is (operand_text o) os t clean_o h,
      subst (λ (x : List ℕ). Match os (nexts n x)) (sym rest) (nexts_match n (operand_text o) os t clean_o valid.1 (omega arith) h),
    )

-- what stands behind the first quote
pub quoted_is : (w : List ℕ) (os : List Operand) (t : List ℕ) → clean w ≡ true → AreOperands os → after 34 (w ++ (operands_text os ++ t)) ≡ after 34 t
quoted_is w [] t e valid = past_word w t e
quoted_is w (o ∷ os) t e valid =
    ap (λ (x : List ℕ). after 34 (w ++ x)) (operands_cons o os t) ∙ past_word w (32 ∷ (operand_text o ++ (operands_text os ++ t))) e ∙ quoted_is (operand_text o) os t (clean_operand o valid.0) valid.1

-- ---- fields

pub reads_place : (n : ℕ) (w : List ℕ) → IsPlace n → w ≡ operand_text (Number n) → number_at w ≡ Some n
reads_place n w h e = ap number_at e ∙ number_again n h

pub reads_error : (n : ℕ) (w : List ℕ) → IsError n → w ≡ operand_text (Number n) → error_at w ≡ Some n
reads_error n w h e = ap error_at e ∙ below_again 65536 n h (lit≤ tt)

pub reads_name : (n : Name) (w : List ℕ) → IsAnyName n → w ≡ operand_text (Named n) → any_name_at w ≡ Some n
reads_name (name.Report n) w h e = ap any_name_at e ∙ rw (below_again 1024 n h (lit≤ tt)) refl
reads_name (name.Basket n) w h e = ap any_name_at e ∙ rw (below_again 1024 n h (lit≤ tt)) refl
reads_name (name.Chain n) w h e = ap any_name_at e ∙ rw (below_again 1024 n h (lit≤ tt)) refl

pub reads_report : (n : ℕ) (w : List ℕ) → IsName n → w ≡ operand_text (report n) → report_at w ≡ Some n
reads_report n w h e = ap report_at e ∙ below_again 1024 n h (lit≤ tt)

pub reads_basket : (n : ℕ) (w : List ℕ) → IsName n → w ≡ operand_text (basket n) → basket_at w ≡ Some n
reads_basket n w h e = ap basket_at e ∙ below_again 1024 n h (lit≤ tt)

pub reads_chain : (n : ℕ) (w : List ℕ) → IsName n → w ≡ operand_text (chain n) → chain_at w ≡ Some n
reads_chain n w h e = ap chain_at e ∙ below_again 1024 n h (lit≤ tt)

pub reads_word : (x : FixedWord) (w : List ℕ) → w ≡ operand_text (Word x) → word_at w ≡ Some x
reads_word x w e = ap word_at e ∙ word_again x

pub reads_class : (x : Class) (w : List ℕ) → w ≡ operand_text (Classed x) → class_at w ≡ Some x
reads_class x w e = ap class_at e ∙ class_again x

pub reads_io : (x : IoKind) (w : List ℕ) → w ≡ operand_text (Io x) → io_at w ≡ Some x
reads_io x w e = ap io_at e ∙ io_again x
