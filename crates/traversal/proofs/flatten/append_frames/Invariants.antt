use Rattle.std.proofs.Common.{◌+◌, ◌≤◌, map, length, drop}
use Rattle.trees.specs.Trees.{Forest}
use Rattle.traversal.specs.Order.{visited}
use Rattle.traversal.specs.Spread.{NextFrames, Listing, trees}
use Rattle.traversal.proofs.flatten.append_frames.Given as goal

abbrev pub invariant-loop-k : goal.invariant-loop-k
invariant-loop-k l = (c : Forest) → NextFrames (map visited l.order) l.o c → l.start + trees c ≤ length l.initial.list
    → Listing (drop l.k (map visited l.order)) l.initial.list l.list l.i l.o l.start (l.start + l.k) c
