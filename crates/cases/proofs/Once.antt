-- A text is the spelling of one list of lines.
use Rattle.std.proofs.Common.{◌≡◌, ◌≢◌, ℕ, ◌<◌, List, [], ◌∷◌, ◌++◌, length, Some, None, Result, Ok, Err, refl, sym, ap, ◌∙◌, append_assoc, arith}
use Rattle.std.specs.Prelude.{IfOk}
use Rattle.std.specs.Global.{Vec}
use Rattle.std.specs.List.{flat_map, AllByRecursion}
use Rattle.std.proofs.lemmas.List.{append-nil, append_cancel_left, length-append}
use Rattle.std.proofs.lemmas.List.Concat.{flat_map-cons}
use Rattle.vocabulary.specs.declared.kind.Kind.TheVariants as kind
use Rattle.cases.specs.Words.{word_text}
use Rattle.cases.specs.Spelling.{operands, first_word, tail, spelled, escaped, line_text, spelling}
use Rattle.cases.specs.Valid.{IsText, IsStatement, IsLine, AreLines, Same, AllSame, ReadAs, IsBad}
use Rattle.cases.specs.Reading.{before, after, word_at, byte_at}
use Rattle.cases.proofs.Words.{quoted_is, clean_fixed}
use Rattle.cases.proofs.Text.{byte_again, pair_is}
use Rattle.cases.proofs.Statements.{four, read_again}
use Rattle.cases.proofs.Lines.{begins}
use Rattle.cases.specs.declared.line.Line.{Line}
use Rattle.cases.specs.declared.line.Line.TheVariants as line
use Rattle.cases.specs.declared.reader.ReadError.{ReadError}
use Rattle.cases.specs.declared.reader.ReadError.TheVariants as error
use Rattle.cases.specs.declared.statement.Record.{Record}
use Rattle.cases.specs.declared.statement.Statement.{Statement}
use Rattle.cases.specs.declared.statement.Statement.TheVariants as statement

text_cons : (c : ℕ) (t : List ℕ) → flat_map escaped (c ∷ t) ++ 34 ∷ [] ≡ escaped c ++ (flat_map escaped t ++ 34 ∷ [])
text_cons c t = ap (λ (x : List ℕ). x ++ 34 ∷ []) (flat_map-cons escaped c t) ∙ append_assoc (escaped c) (flat_map escaped t) (34 ∷ [])

text_next : (c : ℕ) (t bytes : List ℕ) → c < 256 → bytes ≡ flat_map escaped (c ∷ t) ++ 34 ∷ [] → byte_at bytes ≡ Some (c, flat_map escaped t ++ 34 ∷ [])
text_next c t bytes h e = ap byte_at (e ∙ text_cons c t) ∙ byte_again c (flat_map escaped t ++ 34 ∷ []) h

texts_once : (t u bytes : List ℕ) → AllByRecursion (λ b. b < 256) t → AllByRecursion (λ b. b < 256) u → bytes ≡ flat_map escaped t ++ 34 ∷ [] → bytes ≡ flat_map escaped u ++ 34 ∷ [] → t ≡ u
texts_once [] [] bytes h k e f = refl
texts_once [] (d ∷ u) bytes h k e f =
    let next = text_next d u bytes k.0 f in
    let none : byte_at bytes ≡ None = ap byte_at e in
    absurd cc
texts_once (c ∷ t) [] bytes h k e f =
    let next = text_next c t bytes h.0 e in
    let none : byte_at bytes ≡ None = ap byte_at f in
    absurd cc
texts_once (c ∷ t) (d ∷ u) bytes h k e f =
    let both = pair_is (c, flat_map escaped t ++ 34 ∷ []) (d, flat_map escaped u ++ 34 ∷ []) (sym (text_next c t bytes h.0 e) ∙ text_next d u bytes k.0 f) in
    let first : c ≡ d = ap (λ (p : ℕ × List ℕ). p.0) both in
    let others : t ≡ u = texts_once t u (flat_map escaped t ++ 34 ∷ []) h.1 k.1 refl (ap (λ (p : ℕ × List ℕ). p.1) both) in
    cc

abbrev text_of : Statement → List ℕ
text_of (statement.Error n x) = x.text.items
text_of _ = []

behind_quote : (x : Statement) → IsStatement x → after 34 (spelled x) ≡ after 34 (tail x)
behind_quote x v = quoted_is (word_text (first_word x)) (operands x) (tail x) (clean_fixed (first_word x)) (four x v).valid

no_text : (t : List ℕ) → [] ≡ flat_map escaped t ++ 34 ∷ [] → ⊥
no_text t e = let size = ap length e in omega (arith, simp length-append at size)

behind : (x : Statement) → IsStatement x → (t : List ℕ) → IsText t → after 34 (spelled x) ≡ flat_map escaped t ++ 34 ∷ [] → text_of x ≡ t
behind (statement.Error n x) v t h e = texts_once x.text.items t (after 34 (spelled (statement.Error n x))) v.1.1.1 h.1 (behind_quote (statement.Error n x) v) e
behind (statement.Host y) v t h e = absurd (no_text t (sym (behind_quote (statement.Host y) v) ∙ e))
behind (statement.Layer y) v t h e = absurd (no_text t (sym (behind_quote (statement.Layer y) v) ∙ e))
behind (statement.Mark y c n) v t h e = absurd (no_text t (sym (behind_quote (statement.Mark y c n) v) ∙ e))
behind (statement.Wrap y k n) v t h e = absurd (no_text t (sym (behind_quote (statement.Wrap y k n) v) ∙ e))
behind (statement.Call y) v t h e = absurd (no_text t (sym (behind_quote (statement.Call y) v) ∙ e))
behind (statement.Ask y) v t h e = absurd (no_text t (sym (behind_quote (statement.Ask y) v) ∙ e))

some_word : {X : Type 0} (x y : X) → Some x ≡ Some y → x ≡ y
some_word x y e = cc

statements_once : (s x : Statement) → IsStatement s → IsStatement x → spelled s ≡ spelled x → s ≡ x
statements_once s x v w e =
    let r : Record = record { kind = kind.Plain; source = None; text = record { items = text_of s } } in
    let a = read_again s (spelled s) r v refl (behind s v) in
    let b = read_again x (spelled s) r w e (behind s v) in
    let first : first_word s ≡ first_word x = some_word (first_word s) (first_word x) (sym a.first ∙ b.first) in
    cc (a.whole, b.whole, first)

-- the first word of a comment or of a case is none of a statement's
other_word : (x : Statement) (bytes : List ℕ) → IsStatement x → bytes ≡ spelled x → word_at (before 32 bytes) ≡ None → ⊥
other_word x bytes v e none =
    let r : Record = record { kind = kind.Plain; source = None; text = record { items = text_of x } } in
    let a = read_again x bytes r v e (λ t h f. behind x v t h (ap (after 34) (sym e) ∙ f)) in
    let first = a.first in
    absurd cc

comment_word : (t : List ℕ) → word_at (35 ∷ t) ≡ None
comment_word t = refl

case_word : word_at (99 ∷ 97 ∷ 115 ∷ 101 ∷ []) ≡ None
case_word = refl

no_comment : (x : Statement) (t : List ℕ) → IsStatement x → 35 ∷ t ≡ spelled x → ⊥
no_comment x t v e = other_word x (35 ∷ t) v e (comment_word (before 32 t))

no_case : (x : Statement) (t : List ℕ) → IsStatement x → 99 ∷ 97 ∷ 115 ∷ 101 ∷ 32 ∷ t ≡ spelled x → ⊥
no_case x t v e = other_word x (99 ∷ 97 ∷ 115 ∷ 101 ∷ 32 ∷ t) v e case_word

-- the same for any bytes that a line begins with
rests : (w t u : List ℕ) → w ++ t ≡ w ++ u → t ≡ u
rests w t u e = append_cancel_left w t u e

apart : (t u : List ℕ) → 35 ∷ t ≡ 99 ∷ u → ⊥
apart t u e = absurd cc

lines_once : (a b : Line) → IsLine a → IsLine b → line_text a ≡ line_text b → Same a b
lines_once (line.Comment t) (line.Comment u) v w e = rests (35 ∷ []) t.items u.items e
lines_once (line.Comment t) (line.Case u) v w e = apart t.items (97 ∷ 115 ∷ 101 ∷ 32 ∷ u.items) e
lines_once (line.Comment t) (line.Statement x) v w e = no_comment x t.items w e
lines_once (line.Case t) (line.Comment u) v w e = apart u.items (97 ∷ 115 ∷ 101 ∷ 32 ∷ t.items) (sym e)
lines_once (line.Case t) (line.Case u) v w e = rests (99 ∷ 97 ∷ 115 ∷ 101 ∷ 32 ∷ []) t.items u.items e
lines_once (line.Case t) (line.Statement x) v w e = no_case x t.items w e
lines_once (line.Statement s) (line.Comment u) v w e = no_comment s u.items v (sym e)
lines_once (line.Statement s) (line.Case u) v w e = no_case s u.items v (sym e)
lines_once (line.Statement s) (line.Statement x) v w e = statements_once s x v w e

spelling_cons : (l : Line) (ls : List Line) (more : List ℕ) → spelling (l ∷ ls) ++ more ≡ line_text l ++ 10 ∷ (spelling ls ++ more)
spelling_cons l ls more =
    ap (λ (x : List ℕ). x ++ more) (flat_map-cons (λ (l : Line). line_text l ++ 10 ∷ []) l ls) ∙ append_assoc (line_text l ++ 10 ∷ []) (spelling ls) more ∙ append_assoc (line_text l) (10 ∷ []) (spelling ls ++ more)

-- two texts that are one begin with the same line, and go on alike
record Step (a b : Line) (x y : List ℕ) : Type 0 where
  same : Same a b
  rest : x ≡ y

step : (a b : Line) (text x y : List ℕ) → IsLine a → IsLine b → text ≡ line_text a ++ 10 ∷ x → text ≡ line_text b ++ 10 ∷ y → Step a b x y
step a b text x y v w e f =
    let p = begins a text x v e in
    let q = begins b text y w f in
    record { same = lines_once a b v w (sym p.front ∙ q.front); rest = sym p.rest ∙ q.rest }

nothing_begins : (l : Line) (x : List ℕ) → IsLine l → [] ≡ line_text l ++ 10 ∷ x → ⊥
nothing_begins l x v e = (begins l [] x v e).ended refl

files_once : (ls ms : List Line) (text : List ℕ) → AreLines ls → AreLines ms → text ≡ spelling ls ++ [] → text ≡ spelling ms ++ [] → AllSame ls ms
files_once [] [] text v w e f = tt
files_once [] (m ∷ ms) text v w e f = nothing_begins m (spelling ms ++ []) w.0 (sym e ∙ f ∙ spelling_cons m ms [])
files_once (l ∷ ls) [] text v w e f = nothing_begins l (spelling ls ++ []) v.0 (sym f ∙ e ∙ spelling_cons l ls [])
files_once (l ∷ ls) (m ∷ ms) text v w e f =
    let s = step l m text (spelling ls ++ []) (spelling ms ++ []) v.0 w.0 (e ∙ spelling_cons l ls []) (f ∙ spelling_cons m ms []) in
    (s.same, files_once ls ms (spelling ls ++ []) v.1 w.1 refl s.rest)

-- the lines before a bad one are the first ones of any list of lines, and so the bad one is a line after all
no_bad : (front ls : List Line) (text rest : List ℕ) → AreLines front → AreLines ls → text ≡ spelling front ++ rest → text ≡ spelling ls ++ [] → rest ≢ [] → ((l : Line) (after : List ℕ) → IsLine l → rest ≡ line_text l ++ 10 ∷ after → ⊥) → ⊥
no_bad [] [] text rest v w e f more none = more (sym e ∙ f)
no_bad [] (l ∷ ls) text rest v w e f more none = none l (spelling ls ++ []) w.0 (sym e ∙ f ∙ spelling_cons l ls [])
no_bad (m ∷ front) [] text rest v w e f more none = nothing_begins m (spelling front ++ rest) v.0 (sym f ∙ e ∙ spelling_cons m front rest)
no_bad (m ∷ front) (l ∷ ls) text rest v w e f more none =
    let s = step m l text (spelling front ++ rest) (spelling ls ++ []) v.0 w.0 (e ∙ spelling_cons m front rest) (f ∙ spelling_cons l ls []) in
    no_bad front ls (spelling front ++ rest) rest v.1 w.1 refl s.rest more none

abbrev Found : Result (Vec Line) ReadError → List ℕ → Type 0
Found (Ok v) text = AreLines v.items × (text ≡ spelling v.items)
Found (Err e) text = (n : ℕ) → e ≡ error.Line n → (front : List Line) × (rest : List ℕ) × IsBad text n front rest

pub read_as : (r : Result (Vec Line) ReadError) (text : List ℕ) (ls : List Line) → Found r text → AreLines ls → text ≡ spelling ls → ReadAs r ls
read_as (Ok v) text ls found valid e = files_once v.items ls text found.0 valid (found.1 ∙ sym (append-nil (spelling v.items))) (e ∙ sym (append-nil (spelling ls)))
read_as (Err error.Memory) text ls found valid e = tt
read_as (Err (error.Line n)) text ls found valid e =
    let b = found n refl in
    no_bad b.0 ls text b.1 b.2.lines valid b.2.parts (e ∙ sym (append-nil (spelling ls))) b.2.more b.2.no_line

pub found_is : (r : Result (Vec Line) ReadError) (text : List ℕ) → IfOk r (λ v. AreLines v.items × (text ≡ spelling v.items))
    → ((n : ℕ) → r ≡ Err (error.Line n) → (front : List Line) × (rest : List ℕ) × IsBad text n front rest)
    → (ls : List Line) → AreLines ls → text ≡ spelling ls → ReadAs r ls
found_is (Ok v) text found bad ls valid e = read_as (Ok v) text ls found valid e
found_is (Err x) text found bad ls valid e = read_as (Err x) text ls (λ n same. bad n (ap (λ (y : ReadError). Err y) same)) valid e
