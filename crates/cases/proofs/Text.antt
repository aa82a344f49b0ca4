-- Bytes of texts that were written are read again.
use Rattle.std.proofs.Common.{◌≡◌, ℕ, ◌<◌, ◌≤◌, false, eqb, List, [], ◌∷◌, ◌++◌, length, Some, None, refl, sym, ap, ◌∙◌, append_assoc, arith}
use Rattle.std.specs.List.{flat_map, AllByRecursion}
use Rattle.std.proofs.lemmas.Bool.{eqb-false}
use Rattle.std.proofs.lemmas.Bool.Decides.{nat_tests}
use Rattle.std.proofs.lemmas.List.{append-nil, length-append}
use Rattle.std.proofs.lemmas.List.Concat.{flat_map-cons}
use Rattle.cases.specs.Spelling.{escaped, hex_digit}
use Rattle.cases.specs.Valid.{IsText}
use Rattle.cases.specs.Reading.{hex_at, byte_at}

hex_again : (d : ℕ) → d < 16 → hex_at (hex_digit d) ≡ Some d
hex_again d h = grind (arith, nat_tests)

pub byte_again : (b : ℕ) (more : List ℕ) → b < 256 → byte_at (escaped b ++ more) ≡ Some (b, more)
byte_again b more h = grind (arith, nat_tests, hex_again)

-- ---- a whole text

-- of every text that the bytes spell, front was read, and the rest spells what is left
abbrev pub Unread : (bytes front rest : List ℕ) → Type 0
Unread bytes front rest =
    (t : List ℕ) → IsText t → bytes ≡ flat_map escaped t ++ 34 ∷ [] →
    (more : List ℕ) × (t ≡ front ++ more) × (rest ≡ flat_map escaped more ++ 34 ∷ []) × AllByRecursion (λ b. b < 256) more

pub unread_all : (bytes : List ℕ) → Unread bytes [] bytes
unread_all bytes t h e = (t, refl, e, h.1)

pub pair_is : (p q : ℕ × List ℕ) → Some p ≡ Some q → p ≡ q
pair_is p q e = cc

record Next (t front : List ℕ) (b : ℕ) (rest more : List ℕ) : Type 0 where
  parts : t ≡ (front ++ b ∷ []) ++ more
  left : rest ≡ flat_map escaped more ++ 34 ∷ []
  bytes : AllByRecursion (λ b. b < 256) more

next : (t front more rest : List ℕ) (b : ℕ) (after : List ℕ) → t ≡ front ++ more → rest ≡ flat_map escaped more ++ 34 ∷ [] → AllByRecursion (λ b. b < 256) more → byte_at rest ≡ Some (b, after)
    → (left : List ℕ) × Next t front b after left
next t front [] rest b after e r bytes read =
    let none : byte_at rest ≡ None = ap byte_at r in
    absurd cc
next t front (c ∷ more) rest b after e r bytes read =
    let spelled : rest ≡ escaped c ++ (flat_map escaped more ++ 34 ∷ []) = r ∙ ap (λ (x : List ℕ). x ++ 34 ∷ []) (flat_map-cons escaped c more) ∙ append_assoc (escaped c) (flat_map escaped more) (34 ∷ []) in
    let again : byte_at rest ≡ Some (c, flat_map escaped more ++ 34 ∷ []) = ap byte_at spelled ∙ byte_again c (flat_map escaped more ++ 34 ∷ []) bytes.0 in
    let both = pair_is (b, after) (c, flat_map escaped more ++ 34 ∷ []) (sym read ∙ again) in
    let same : c ≡ b = sym (ap (λ (p : ℕ × List ℕ). p.0) both) in
    let left : after ≡ flat_map escaped more ++ 34 ∷ [] = ap (λ (p : ℕ × List ℕ). p.1) both in
    (more, record { parts = e ∙ sym (append_assoc front (c ∷ []) more) ∙ ap (λ (x : ℕ). (front ++ x ∷ []) ++ more) same; left = left; bytes = bytes.1 })

pub unread_less : (bytes front rest : List ℕ) (b : ℕ) (after : List ℕ) → Unread bytes front rest → byte_at rest ≡ Some (b, after) → Unread bytes (front ++ b ∷ []) after
unread_less bytes front rest b after h read t valid e =
    let u = h t valid e in
    let n = next t front u.0 rest b after u.1 u.2 u.3 read in
    (n.0, n.1.parts, n.1.left, n.1.bytes)

-- a text that is longer than its front has more than so many bytes
pub unread_full : (bytes front rest : List ℕ) (b : ℕ) (after : List ℕ) → Unread bytes front rest → byte_at rest ≡ Some (b, after) → 255 ≤ length front → (t : List ℕ) → IsText t → bytes ≡ flat_map escaped t ++ 34 ∷ [] → ⊥
unread_full bytes front rest b after h read full t valid e =
    let u = unread_less bytes front rest b after h read t valid e in
    let size = ap length u.1 in
    omega (arith, valid.0, simp length-append at size)

pub unread_none : (bytes front rest : List ℕ) → Unread bytes front rest → byte_at rest ≡ None → (t : List ℕ) → IsText t → bytes ≡ flat_map escaped t ++ 34 ∷ [] → front ≡ t
unread_none bytes front rest h read t valid e =
    let u = h t valid e in
    elim u.0 as (λ (more : List ℕ). t ≡ front ++ more → rest ≡ flat_map escaped more ++ 34 ∷ [] → AllByRecursion (λ b. b < 256) more → front ≡ t) [
      | [] ↦ λ p r bytes. sym (p ∙ append-nil front)
      | c ∷ more ↦ λ p r bytes.
          let spelled : rest ≡ escaped c ++ (flat_map escaped more ++ 34 ∷ []) = r ∙ ap (λ (x : List ℕ). x ++ 34 ∷ []) (flat_map-cons escaped c more) ∙ append_assoc (escaped c) (flat_map escaped more) (34 ∷ []) in
          let again : byte_at rest ≡ Some (c, flat_map escaped more ++ 34 ∷ []) = ap byte_at spelled ∙ byte_again c (flat_map escaped more ++ 34 ∷ []) bytes.0 in
          absurd cc
    ] u.1 u.2 u.3

all_push : (t : List ℕ) (b : ℕ) → AllByRecursion (λ b. b < 256) t → b < 256 → AllByRecursion (λ b. b < 256) (t ++ b ∷ [])
all_push [] b h small = (small, tt)
all_push (c ∷ t) b h small = (h.0, all_push t b h.1 small)

pub is_text_push : (t : List ℕ) (b : ℕ) → IsText t → b < 256 → eqb (length t) 255 ≡ false → IsText (t ++ b ∷ [])
is_text_push t b h small room =
    let less : length t ≡ 255 → ⊥ = eqb-false (length t) 255 room in
    (omega (arith, length-append t (b ∷ []), h.0), all_push t b h.1 small)
