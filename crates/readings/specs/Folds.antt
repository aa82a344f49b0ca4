-- Folds by an operation whose order and grouping do not matter.
use Rattle.std.specs.Prelude.{◌≡◌, List, [], ◌∷◌}
use Rattle.nodes.specs.Rows.{Rows, none, node}

-- an operation with a unit, in any order and any grouping
pub record CommutativeMonoid {M : Type 0} (op : M → M → M) (unit : M) : Type 0 where
  pub unit_left : (a : M) → op unit a ≡ a
  pub commutes : (a b : M) → op a b ≡ op b a
  pub associates : (a b c : M) → op (op a b) c ≡ op a (op b c)

-- a list, each element by what it comes to
abbrev pub folded : {A M : Type 0} → (M → M → M) → M → (A → M) → List A → M
folded op unit f [] = unit
folded op unit f (x ∷ xs) = op (f x) (folded op unit f xs)

-- a row, each node by its value and by what its children come to
abbrev pub gathered : {A M : Type 0} → (M → M → M) → M → (A → M → M) → Rows A → M
gathered op unit f none = unit
gathered op unit f (node v c r) = op (f v (gathered op unit f c)) (gathered op unit f r)

-- a row, each node by what its value comes to
abbrev pub summed : {A M : Type 0} → (M → M → M) → M → (A → M) → Rows A → M
summed op unit f r = gathered op unit (λ v m. op (f v) m) r
