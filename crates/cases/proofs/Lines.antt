-- Lines end with the first newline.
use Rattle.std.proofs.Common.{◌≡◌, ℕ, ◌<◌, true, eqb, List, [], ◌∷◌, ◌++◌, length, refl, ap, ◌∙◌, arith, inl, inr}
use Rattle.std.specs.List.{flat_map, AllByRecursion}
use Rattle.std.proofs.lemmas.Bool.{ne_eqb, eqb-true, eqb-false, cases_Bool}
use Rattle.std.proofs.lemmas.Bool.Decides.{nat_tests}
use Rattle.std.proofs.lemmas.List.{length-append}
use Rattle.std.proofs.lemmas.List.Concat.{flat_map-cons}
use Rattle.cases.specs.Words.{word_text}
use Rattle.cases.specs.Spelling.{operand_text, operands_text, operands, first_word, tail, escaped, quoted, line_text}
use Rattle.cases.specs.Valid.{IsText, IsStatement, NoNewline, IsLine}
use Rattle.cases.specs.Reading.{before, after}
use Rattle.cases.proofs.Words.{clean, clean_parts, clean_fixed, clean_operand, AreOperands}
use Rattle.cases.proofs.Statements.{four}
use Rattle.cases.specs.declared.line.Line.{Line}
use Rattle.cases.specs.declared.line.Line.TheVariants as line
use Rattle.cases.specs.declared.operand.Operand.{Operand}
use Rattle.cases.specs.declared.statement.Statement.{Statement}
use Rattle.cases.specs.declared.statement.Statement.TheVariants as statement

-- ---- a text is cut at the first newline

pub no_newline_before : (bytes : List ℕ) → NoNewline (before 10 bytes)
no_newline_before [] = tt
no_newline_before (b ∷ bytes) =
    elim (cases_Bool (eqb b 10)) [
      | inl same ↦ rw same tt
      | inr other ↦ rw other (eqb-false b 10 other, no_newline_before bytes)
    ]

pub cut_before : (x y : List ℕ) → NoNewline x → before 10 (x ++ 10 ∷ y) ≡ x
cut_before [] y h = refl
cut_before (b ∷ x) y h = rw (ne_eqb b 10 h.0) (ap (λ (t : List ℕ). b ∷ t) (cut_before x y h.1))

pub cut_after : (x y : List ℕ) → NoNewline x → after 10 (x ++ 10 ∷ y) ≡ y
cut_after [] y h = refl
cut_after (b ∷ x) y h = rw (ne_eqb b 10 h.0) (cut_after x y h.1)

pub cut_ended : (bytes : List ℕ) → (length (before 10 bytes) ≡ length bytes → ⊥) → bytes ≡ before 10 bytes ++ 10 ∷ after 10 bytes
cut_ended [] h = absurd (h refl)
cut_ended (b ∷ bytes) h =
    elim (cases_Bool (eqb b 10)) [
      | inl same ↦ rw same (ap (λ (c : ℕ). c ∷ bytes) (eqb-true b 10 same))
      | inr other ↦
          let less : length (before 10 bytes) ≡ length bytes → ⊥ = λ e. h (rw other (omega arith)) in
          rw other (ap (λ (t : List ℕ). b ∷ t) (cut_ended bytes less))
    ]

-- ---- no line has a newline in it

plain_append : (x y : List ℕ) → NoNewline x → NoNewline y → NoNewline (x ++ y)
plain_append [] y h k = k
plain_append (b ∷ x) y h k = (h.0, plain_append x y h.1 k)

plain_clean : (w : List ℕ) → clean w ≡ true → NoNewline w
plain_clean [] e = tt
plain_clean (c ∷ cs) e =
    let p = clean_parts c cs e in
    (eqb-false c 10 p.newline, plain_clean cs p.rest)

plain_operands : (os : List Operand) → AreOperands os → NoNewline (operands_text os)
plain_operands [] h = tt
plain_operands (o ∷ os) h = (λ (e : 32 ≡ 10). absurd (omega arith), plain_append (operand_text o) (operands_text os) (plain_clean (operand_text o) (clean_operand o h.0)) (plain_operands os h.1))

plain_escaped : (b : ℕ) → b < 256 → NoNewline (escaped b)
plain_escaped b h = grind (arith, nat_tests)

plain_text : (t : List ℕ) → AllByRecursion (λ b. b < 256) t → NoNewline (flat_map escaped t)
plain_text [] h = tt
plain_text (b ∷ t) h = rw flat_map-cons (plain_append (escaped b) (flat_map escaped t) (plain_escaped b h.0) (plain_text t h.1))

plain_quoted : (t : List ℕ) → IsText t → NoNewline (quoted t)
plain_quoted t h = (λ (e : 34 ≡ 10). absurd (omega arith), plain_append (flat_map escaped t) (34 ∷ []) (plain_text t h.1) (λ (e : 34 ≡ 10). absurd (omega arith), tt))

plain_tail : (x : Statement) → IsStatement x → NoNewline (tail x)
plain_tail (statement.Error n x) h = (λ (e : 32 ≡ 10). absurd (omega arith), plain_quoted x.text.items h.1.1)
plain_tail _ h = tt

pub plain_line : (l : Line) → IsLine l → NoNewline (line_text l)
plain_line (line.Comment text) h = (λ (e : 35 ≡ 10). absurd (omega arith), h)
plain_line (line.Case name) h = plain_append (99 ∷ 97 ∷ 115 ∷ 101 ∷ []) (32 ∷ name.items) (plain_clean (99 ∷ 97 ∷ 115 ∷ 101 ∷ []) refl) (λ (e : 32 ≡ 10). absurd (omega arith), h)
plain_line (line.Statement x) h =
    plain_append (word_text (first_word x)) (operands_text (operands x) ++ tail x) (plain_clean (word_text (first_word x)) (clean_fixed (first_word x)))
    (plain_append (operands_text (operands x)) (tail x) (plain_operands (operands x) (four x h).valid) (plain_tail x h))

-- what a text that begins with a line is cut into
pub record Begins (l : Line) (text more : List ℕ) : Type 0 where
  pub front : before 10 text ≡ line_text l
  pub rest : after 10 text ≡ more
  pub ended : length (before 10 text) ≡ length text → ⊥

pub begins : (l : Line) (text more : List ℕ) → IsLine l → text ≡ line_text l ++ 10 ∷ more → Begins l text more
begins l text more h e =
    let plain = plain_line l h in
    let front : before 10 text ≡ line_text l = ap (before 10) e ∙ cut_before (line_text l) more plain in
    let size = ap length e in
    record {
      front = front;
      rest = ap (after 10) e ∙ cut_after (line_text l) more plain;
      ended = λ same. omega (arith, same, ap length front, simp length-append at size);
    }
