use Rattle.nodes.specs.Check.{blank}
use Rattle.nodes.specs.Notes.{cleared}
use Rattle.nodes.proofs.Mapping.{changed_more}
use Rattle.nodes.proofs.notes.clear_notes.Goals as goal

pub loop-node-preserved : goal.loop-node-preserved
loop-node-preserved c = changed_more cleared blank c.args.nodes.now c.loop-node.nodes c.loop-node.node-index c.loop-node.invariant c.loop-node-test.true
