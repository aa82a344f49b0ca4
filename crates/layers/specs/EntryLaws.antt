-- Reading a list of entries that has one more.
use Rattle.std.specs.Prelude.{◌≡◌, ℕ, zero, suc, cond, ◌⊎◌, List, [], ◌∷◌, ◌++◌, length, Some, nat_eq, refl}
use Rattle.std.proofs.Common.{◌∙◌, arith}
use Rattle.std.proofs.lemmas.Bool.Decides.{nat_tests}
use Rattle.std.specs.List.{slice_get}
use Rattle.layers.specs.declared.entry.Entry.{Entry}

pub get_more : (items : List Entry) (x : Entry) (i : ℕ) → slice_get (items ++ x ∷ []) i ≡ cond (nat_eq i (length items)) (Some x) (slice_get items i)
get_more [] x zero = refl
get_more [] x (suc i) = grind (arith, nat_tests)
get_more (y ∷ ys) x zero = grind (arith, nat_tests)
get_more (y ∷ ys) x (suc i) = get_more ys x i ∙ grind (arith, nat_tests)

-- an entry of the longer list is the new one or an old one
pub either : (items : List Entry) (x : Entry) (i : ℕ) (y : Entry) → slice_get (items ++ x ∷ []) i ≡ Some y → ((i ≡ length items) × (y ≡ x)) ⊎ (slice_get items i ≡ Some y)
either items x i y q = grind (arith, nat_tests, get_more items x i)
