-- A fold over a list of nodes from its last to its first, each added to what is gathered for its parent.
use Rattle.std.specs.Prelude.{ℕ, ◌+◌, Bool, true, false, cond, List, [], ◌∷◌, Some, None, Option, ◌==◌}
use Rattle.nodes.specs.Breadth.{Item}

-- whether two parents are the same
abbrev pub same_parent : Option ℕ → Option ℕ → Bool
same_parent None None = true
same_parent None (Some j) = false
same_parent (Some i) None = false
same_parent (Some i) (Some j) = i == j

-- what is gathered for each parent, with one value more for the parent `o`
abbrev pub added_to : {M : Type 0} → (M → M → M) → Option ℕ → M → (Option ℕ → M) → Option ℕ → M
added_to op o v acc p = cond (same_parent o p) (op (acc p) v) (acc p)

-- what the list gathers for each parent, and for the roots at `None`; the first item has the index `n`
abbrev pub from_back : {A M : Type 0} → (M → M → M) → M → (A → M → M) → ℕ → List (Item A) → Option ℕ → M
from_back op unit f n [] = λ p. unit
from_back op unit f n (x ∷ xs) = added_to op x.parent (f x.value (from_back op unit f (n + 1) xs (Some n))) (from_back op unit f (n + 1) xs)
