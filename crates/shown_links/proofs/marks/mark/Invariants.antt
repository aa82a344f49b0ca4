use Rattle.std.proofs.Common.{◌≡◌, map, take, drop, ◌++◌}
use Rattle.shown_links.specs.Linked.{marked}
use Rattle.shown_links.proofs.marks.mark.Given as goal

abbrev pub invariant-loop-node : goal.invariant-loop-node
invariant-loop-node g l = l.nodes ≡ map (marked (g.H.Host.errors l.fn.host)) (take l.node-index l.initial.nodes) ++ drop l.node-index l.initial.nodes
