-- A text begins with one line at most.
use Rattle.std.proofs.Common.{◌≡◌, ℕ, ◌+◌, ◌<◌, ◌^◌, ◌%◌, true, false, not, true≢false, eqb, get_or, List, [], ◌∷◌, ◌++◌, refl, sym, ap, ◌∙◌, decimal, arith}
use Rattle.std.proofs.lemmas.Bool.{and_parts, ne_eqb}
use Rattle.std.proofs.lemmas.Fmt.{decimal_by_steps, decimal_injective}
use Rattle.std.proofs.lemmas.List.{append_cancel_left}
use Rattle.script_lines.specs.Spelling.{Begins, IsError, IsLine, line_text, plain}
use Rattle.script_lines.specs.declared.line.Line.{Line}
use Rattle.script_lines.specs.declared.line.Line.TheVariants.{New, Raise, All, Chain, Drain, Drop}

plain_append : (x y : List ℕ) → plain x ≡ true → plain y ≡ true → plain (x ++ y) ≡ true
plain_append [] y p q = q
plain_append (b ∷ x) y p q =
    let parts = and_parts (not (eqb b 10)) (plain x) p in
    rw parts.0 (plain_append x y parts.1 q)

plain_digit : (d : ℕ) → plain ((48 + d) ∷ []) ≡ true
plain_digit d = rw (ne_eqb (48 + d) 10 (λ e. omega arith)) refl

plain_decimal : (n : ℕ) → n < 2 ^ 64 → plain (decimal n) ≡ true
plain_decimal n h = decimal_by_steps (λ n ds. plain ds ≡ true) (λ n small. plain_digit n) (λ n ds large p. plain_append ds _ p (plain_digit (n % 10))) n h

word_number : (word : List ℕ) (e : ℕ) → plain word ≡ true → IsError e → plain (word ++ decimal e) ≡ true
word_number word e p h = plain_append word (decimal e) p (plain_decimal e (omega arith))

pub plain_line : (l : Line) → IsLine l → plain (line_text l) ≡ true
plain_line (New e) h = word_number (110 ∷ 101 ∷ 119 ∷ 32 ∷ []) e refl h
plain_line (Raise e) h = word_number (114 ∷ 97 ∷ 105 ∷ 115 ∷ 101 ∷ 32 ∷ []) e refl h
plain_line (All e) h = word_number (97 ∷ 108 ∷ 108 ∷ 32 ∷ []) e refl h
plain_line Chain h = refl
plain_line Drain h = refl
plain_line Drop h = refl

-- a text is cut at its first newline
pub record Same (x x' y y' : List ℕ) : Type 0 where
  pub front : x ≡ x'
  pub rest : y ≡ y'

newline : (b : ℕ) (x : List ℕ) → plain (b ∷ x) ≡ true → b ≡ 10 → ⊥
newline b x p e =
    let parts = and_parts (not (eqb b 10)) (plain x) p in
    let other : not (eqb b 10) ≡ false = ap (λ (c : ℕ). not (eqb c 10)) e in
    absurd (cc (parts.0, other))

pub cut_once : (x x' y y' : List ℕ) → plain x ≡ true → plain x' ≡ true → x ++ 10 ∷ y ≡ x' ++ 10 ∷ y' → Same x x' y y'
cut_once [] [] y y' p q e = let rest : y ≡ y' = cc e in record { front = refl; rest = rest }
cut_once [] (c ∷ x') y y' p q e = let same : c ≡ 10 = cc e in absurd (newline c x' q same)
cut_once (b ∷ x) [] y y' p q e = let same : b ≡ 10 = cc e in absurd (newline b x p same)
cut_once (b ∷ x) (c ∷ x') y y' p q e =
    let tails : x ++ 10 ∷ y ≡ x' ++ 10 ∷ y' = cc e in
    let same = cut_once x x' y y' (and_parts (not (eqb b 10)) (plain x) p).1 (and_parts (not (eqb c 10)) (plain x') q).1 tails in
    let first : b ≡ c = cc e in
    let front : b ∷ x ≡ c ∷ x' = cc (first, same.front) in
    record { front = front; rest = same.rest }

number_once : (word : List ℕ) (e f : ℕ) → IsError e → IsError f → word ++ decimal e ≡ word ++ decimal f → e ≡ f
number_once word e f h k q = decimal_injective e f (omega arith) (omega arith) (append_cancel_left word (decimal e) (decimal f) q)

line_once : (l m : Line) → IsLine l → IsLine m → line_text l ≡ line_text m → l ≡ m
line_once (New e) (New f) h k q = ap New (number_once (110 ∷ 101 ∷ 119 ∷ 32 ∷ []) e f h k q)
line_once (Raise e) (Raise f) h k q = ap Raise (number_once (114 ∷ 97 ∷ 105 ∷ 115 ∷ 101 ∷ 32 ∷ []) e f h k q)
line_once (All e) (All f) h k q = ap All (number_once (97 ∷ 108 ∷ 108 ∷ 32 ∷ []) e f h k q)
line_once Chain Chain h k q = refl
line_once Drain Drain h k q = refl
line_once Drop Drop h k q = refl
line_once l m h k q =
    let first = ap (λ (t : List ℕ). get_or t 0 0) q in
    let third = ap (λ (t : List ℕ). get_or t 2 0) q in
    absurd (omega (arith, first, third))

pub record SameLine (l m : Line) (after after' : List ℕ) : Type 0 where
  pub line : l ≡ m
  pub rest : after ≡ after'

pub begins_once : (text : List ℕ) (l m : Line) (after after' : List ℕ) → Begins text l after → Begins text m after' → SameLine l m after after'
begins_once text l m after after' b c =
    let cut = cut_once (line_text l) (line_text m) after after' (plain_line l b.is_line) (plain_line m c.is_line) (sym b.parts ∙ c.parts) in
    record { line = line_once l m b.is_line c.is_line cut.front; rest = cut.rest }

nothing_ends : (x y : List ℕ) → [] ≡ x ++ 10 ∷ y → ⊥
nothing_ends [] y e = absurd cc
nothing_ends (b ∷ x) y e = absurd cc

pub nothing_begins : (l : Line) (after : List ℕ) → Begins [] l after → ⊥
nothing_begins l after b = nothing_ends (line_text l) after b.parts

-- a text without newlines has no line
pub no_newline : (text x y : List ℕ) → plain text ≡ true → text ≡ x ++ 10 ∷ y → ⊥
no_newline text x y p e = ended x y (sym (ap plain e) ∙ p)
  where
    ended : (x y : List ℕ) → plain (x ++ 10 ∷ y) ≡ true → ⊥
    ended [] y p = true≢false (sym p)
    ended (b ∷ x) y p = ended x y (and_parts (not (eqb b 10)) (plain (x ++ 10 ∷ y)) p).1
