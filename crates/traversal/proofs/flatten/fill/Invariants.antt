use Rattle.std.proofs.Common.{map, length}
use Rattle.trees.specs.Trees.{Tree}
use Rattle.traversal.specs.Order.{visited}
use Rattle.traversal.specs.Spread.{Begun, Spread}
use Rattle.traversal.proofs.Spreads.{root_of}
use Rattle.traversal.proofs.flatten.fill.Given as goal

abbrev pub invariant-loop-i : goal.invariant-loop-i
invariant-loop-i g l = (t : Tree) → Begun (g.H.Host.errors l.host) (map visited l.order) (length l.initial.list) t
    → Spread (g.H.Host.errors l.host) (map visited l.order) l.initial.list l.list l.i l.at (root_of t)
