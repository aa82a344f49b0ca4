-- Trees of values side by side. antt has no nested recursion, so the trees of a row are linked, as its children are.
use Rattle.std.specs.Prelude.{ℕ, ◌+◌}

infixr 30 ◌beside◌
-- the value and the children of the first node, and the nodes after it
pub data Rows (A : Type 0) : Type 0 where
  none : Rows A
  node : A → Rows A → Rows A → Rows A

abbrev pub ◌beside◌ : {A : Type 0} → Rows A → Rows A → Rows A
none beside s = s
node v c r beside s = node v c (r beside s)

-- how many nodes there are
abbrev pub count : {A : Type 0} → Rows A → ℕ
count none = 0
count (node v c r) = (count c + 1) + count r

-- the same row with other values
abbrev pub mapped : {A B : Type 0} → (A → B) → Rows A → Rows B
mapped f none = none
mapped f (node v c r) = node (f v) (mapped f c) (mapped f r)
