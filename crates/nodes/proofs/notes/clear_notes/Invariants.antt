use Rattle.std.proofs.Common.{◌≡◌, map, take, drop, ◌++◌}
use Rattle.nodes.specs.Notes.{cleared}
use Rattle.nodes.proofs.notes.clear_notes.Given as goal

abbrev pub invariant-loop-node : goal.invariant-loop-node
invariant-loop-node l = l.nodes ≡ map cleared (take l.node-index l.initial.nodes) ++ drop l.node-index l.initial.nodes
