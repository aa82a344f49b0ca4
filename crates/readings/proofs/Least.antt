-- The operations of the folds, in any order and grouping.
use Rattle.std.proofs.Common.{◌≡◌, Bool, true, false, ◌&&◌, ◌||◌, ltb, List, [], ◌∷◌, Some, None, Option, sym, refl, ap, ◌∙◌, ⊎_elim, arith}
use mathlib.Core.Bool.{or_assoc, or_comm, and_assoc, and_comm}
use Rattle.std.proofs.lemmas.Bool.{lt-ltb, le-ltb, cond-true, cond-false, cases_order}
use Rattle.classes.specs.Class.{lesser, rank, class_at}
use Rattle.classes.specs.declared.class.Class.{Class}
use Rattle.classes.specs.declared.class.Class.TheVariants.{Cancelled, Corruption, ResourceExhaustion, Validation, Unsupported, Unauthenticated, PermissionDenied, Conflict, NotFound, Retryable}
use Rattle.classes.specs.declared.class.ResourceExhaustionKind.TheVariants.{AllocationLimit, AllocationFailure}
use Rattle.vocabulary.specs.declared.policy.Pair.{Pair}
use Rattle.model.specs.Judge.{least_class, any_pair}
use Rattle.model.proofs.Judge.{lesser_assoc}
use Rattle.readings.specs.Folds.{CommutativeMonoid, folded}
use Rattle.readings.specs.Seen.{Seen, nothing, single, several, ◌with◌}

-- the class of a class's rank is the class
ranked : (x : Class) → class_at (rank x) ≡ Some x
ranked Cancelled = refl
ranked Corruption = refl
ranked (ResourceExhaustion AllocationLimit) = refl
ranked (ResourceExhaustion AllocationFailure) = refl
ranked Validation = refl
ranked Unsupported = refl
ranked Unauthenticated = refl
ranked PermissionDenied = refl
ranked Conflict = refl
ranked NotFound = refl
ranked Retryable = refl

-- in either order, since classes of one rank are the same
lesser_commutes : (a b : Option Class) → lesser a b ≡ lesser b a
lesser_commutes None None = refl
lesser_commutes None (Some y) = refl
lesser_commutes (Some x) None = refl
lesser_commutes (Some x) (Some y) =
    ⊎_elim
    (λ q. cond-false (ltb (rank y) (rank x)) _ _ (le-ltb (rank y) (rank x) (omega arith))
    ∙ (sym (ranked x) ∙ ap class_at q ∙ ranked y)
    ∙ sym (cond-false (ltb (rank x) (rank y)) _ _ (le-ltb (rank x) (rank y) (omega arith))))
    (λ o. ⊎_elim
    (λ l. cond-false (ltb (rank y) (rank x)) _ _ (le-ltb (rank y) (rank x) (omega arith)) ∙ sym (cond-true (ltb (rank x) (rank y)) _ _ (lt-ltb (rank x) (rank y) l)))
    (λ l. cond-true (ltb (rank y) (rank x)) _ _ (lt-ltb (rank y) (rank x) l) ∙ sym (cond-false (ltb (rank x) (rank y)) _ _ (le-ltb (rank x) (rank y) (omega arith))))
    o)
    (cases_order (rank x) (rank y))

pub lesser_monoid : CommutativeMonoid lesser None
lesser_monoid = record { unit_left = λ a. refl; commutes = lesser_commutes; associates = lesser_assoc }

pub or_monoid : CommutativeMonoid ◌||◌ false
or_monoid = record { unit_left = λ a. refl; commutes = or_comm; associates = or_assoc }

pub and_monoid : CommutativeMonoid ◌&&◌ true
and_monoid = record { unit_left = λ a. refl; commutes = and_comm; associates = and_assoc }

module _ {E : Type 0} where
  with_commutes : (a b : Seen E) → (a with b) ≡ (b with a)
  with_commutes nothing nothing = refl
  with_commutes nothing (single d) = refl
  with_commutes nothing several = refl
  with_commutes (single c) nothing = refl
  with_commutes (single c) (single d) = refl
  with_commutes (single c) several = refl
  with_commutes several nothing = refl
  with_commutes several (single d) = refl
  with_commutes several several = refl

  with_associates : (a b c : Seen E) → ((a with b) with c) ≡ (a with (b with c))
  with_associates nothing b c = refl
  with_associates (single x) nothing c = refl
  with_associates (single x) (single y) nothing = refl
  with_associates (single x) (single y) (single z) = refl
  with_associates (single x) (single y) several = refl
  with_associates (single x) several c = refl
  with_associates several b c = refl

  pub with_monoid : CommutativeMonoid {M = Seen E} ◌with◌ nothing
  with_monoid = record { unit_left = λ a. refl; commutes = with_commutes; associates = with_associates }

-- the least class is a fold
pub least_folded : (ps : List Pair) → least_class ps ≡ folded lesser None (λ (p : Pair). p.class) ps
least_folded [] = refl
least_folded (p ∷ ps) = ap (lesser p.class) (least_folded ps)

-- whether one is accepted is a fold
pub any-folded : (accepts : Pair → Bool) (ps : List Pair) → any_pair accepts ps ≡ folded ◌||◌ false accepts ps
any-folded accepts [] = refl
any-folded accepts (p ∷ ps) = ap (λ (b : Bool). accepts p || b) (any-folded accepts ps)
