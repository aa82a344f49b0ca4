use Rattle.std.proofs.Common.{◌+◌}
use Rattle.trees.specs.Numbered.{size}
use Rattle.frames.specs.Of.{frames_of}
use Rattle.traversal.specs.Walk.{Walk}
use Rattle.traversal.proofs.Walks.{root, At}
use Rattle.traversal.proofs.order.breadth_first.Given as goal

abbrev pub invariant-loop-i : goal.invariant-loop-i
invariant-loop-i g l = (a : At l.frames l.root) → Walk (frames_of l.frames) l.order.items (size a.kids + 1) l.i (root l.root a.tree a.kids)
