-- Which lists are flattenings, and which begin one.
use Rattle.std.specs.Prelude.{◌≡◌, ℕ, ◌+◌, ◌<◌, ◌≤◌, List, ◌++◌, length, take, Some, None, Option}
use Rattle.model.specs.Host.{Errors}
use Rattle.trees.specs.Trees.{Tree}
use Rattle.nodes.specs.declared.node.Node.{Node}
use Rattle.nodes.specs.Nodes.{LiveTree}
use Rattle.nodes.specs.Flattening.{flattening}

-- a list is the flattening of a tree over the host
pub record Flattens (h : Errors) (xs : List Node) (t : Tree) : Type 0 where
  pub live : LiveTree h t
  pub lists : flattening h t ≡ xs

-- some tree over the host flattens to the list
abbrev pub Flat : Errors → List Node → Type 0
Flat h xs = (t : Tree) × Flattens h xs t

-- the nodes are the first ones of some flattening
pub record Begins (h : Errors) (xs : List Node) : Type 0 where
  pub tree : Tree
  pub rest : List Node
  pub live : LiveTree h tree
  pub lists : flattening h tree ≡ xs ++ rest

-- the first index at which a list is no flattening: the nodes before it begin one, and with the node there they begin
-- none; or, at its length, the list begins one and is none
pub record FirstBad (h : Errors) (xs : List Node) (i : ℕ) : Type 0 where
  pub within : i ≤ length xs
  pub before : (j : ℕ) → j < i → Begins h (take (j + 1) xs)
  pub here : i < length xs → Begins h (take (i + 1) xs) → ⊥
  pub ends : i ≡ length xs → Flat h xs → ⊥

-- the answer of a check: none for a flattening, or else the first index at which the list is none
abbrev pub Checked : Errors → List Node → Option ℕ → Type 0
Checked h xs None = Flat h xs
Checked h xs (Some i) = FirstBad h xs i
