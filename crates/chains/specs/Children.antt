-- The children of a node in a list.
use Rattle.std.specs.Prelude.{ℕ, ◌+◌, cond, List, [], ◌∷◌, drop}
use Rattle.nodes.specs.declared.node.Node.{Node}
use Rattle.nodes.specs.Breadth.{is_parent}

-- the indices of the nodes with this parent, where the first node has the index `n`
abbrev pub children_from : ℕ → ℕ → List Node → List ℕ
children_from p n [] = []
children_from p n (x ∷ xs) = cond (is_parent p x.parent) (n ∷ children_from p (n + 1) xs) (children_from p (n + 1) xs)

-- the children of a node from an index on
abbrev pub children_after : List Node → ℕ → ℕ → List ℕ
children_after xs p at = children_from p at (drop at xs)
