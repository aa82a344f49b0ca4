-- The first node of a flattening.
use Rattle.std.proofs.Common.{◌≡◌, ℕ, suc, ◌+◌, ◌<◌, List, ◌∷◌, ◌++◌, map, length, None, sym, refl, ap, ◌∙◌, arith}
use Rattle.model.specs.Host.{Errors}
use Rattle.trees.specs.Trees.{Tree}
use Rattle.nodes.specs.declared.node.Node.{Node}
use Rattle.nodes.specs.Breadth.{Entry, Item, below, breadth_first, item, levels, under}
use Rattle.nodes.specs.Check.{node_at}
use Rattle.nodes.specs.Flattening.{flattening, listed}
use Rattle.nodes.specs.Rows.{Rows, node, count}

-- the first item of a row that has a node
first_item : {A : Type 0} (v : A) (c r : Rows A) → (ys : List (Item A)) × (breadth_first (node v c r) ≡ record { parent = None; value = v } ∷ ys)
unfolding breadth_first levels
first_item v c r =
    let ws : List (Entry _) = under None (node v c r) in
    let e : (count c + 1) + count r ≡ suc (count c + count r) = omega arith in
    (map item (under None r) ++ levels (count c + count r) (0 + length ws) (below 0 ws), ap (λ (d : ℕ). levels d 0 ws) e)

module _ (h : Errors) (t : Tree) (xs : List Node) (is : flattening h t ≡ xs) where
  first : (ys : List Node) × (x : Node) × (xs ≡ x ∷ ys) × (x.error ≡ t.error)
  unfolding flattening
  first = let i = first_item _ _ _ in (map listed i.0, listed _, sym is ∙ ap (map listed) i.1, refl)

  pub some : 0 < length xs
  some = let f = first in let e = ap length f.2 in omega arith

  pub root_error : (node_at xs 0).error ≡ t.error
  root_error = let f = first in ap (λ (ys : List Node). (node_at ys 0).error) f.2 ∙ f.3
