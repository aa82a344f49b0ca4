-- The nodes of a part of a list.
use Rattle.std.proofs.Common.{◌≡◌, ℕ, ◌+◌, ◌-◌, ◌<◌, ◌≤◌, List, length, take, drop, ◌∙◌, arith}
use Rattle.std.proofs.lemmas.List.{get_or-take, get_or-drop, length-take, length-drop}
use Rattle.nodes.specs.declared.node.Node.{Node}
use Rattle.nodes.specs.Check.{blank, node_at}

module _ (xs : List Node) (from to : ℕ) where
  pub part-length : from ≤ to → to ≤ length xs → length (take (to - from) (drop from xs)) ≡ to - from
  part-length low high = omega (arith, length-take (to - from) (drop from xs), length-drop from xs)

  pub part-at : (k : ℕ) → k < to - from → node_at (take (to - from) (drop from xs)) k ≡ node_at xs (from + k)
  part-at k lt = get_or-take (to - from) (drop from xs) k blank lt ∙ get_or-drop from xs k blank
