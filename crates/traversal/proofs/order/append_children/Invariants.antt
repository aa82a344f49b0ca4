use Rattle.std.proofs.Common.{◌-◌, length}
use Rattle.trees.specs.Numbered.{Numbered}
use Rattle.frames.specs.Of.{frames_of}
use Rattle.traversal.specs.Order.{Room}
use Rattle.traversal.specs.Walk.{Trail}
use Rattle.traversal.proofs.order.append_children.Given as goal

abbrev pub invariant-loop-at : goal.invariant-loop-at
invariant-loop-at g l = (kids : Numbered) → Room (frames_of l.frames) l.initial.at (length l.initial.order.items) g.row.N kids → Trail l.initial.order.items l.order.items l.at l.parent kids

abbrev pub decreases-loop-at : goal.decreases-loop-at
decreases-loop-at g l = g.row.N - length l.order.items
