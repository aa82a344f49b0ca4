use Rattle.std.proofs.Common.{arith}
use Rattle.nodes.specs.declared.node.Plan.{Plan}
use Rattle.shown_links.proofs.Kept.{written_alike, written_kept}
use Rattle.shown_links.proofs.links.follow_node.Goals as goal

pub returns-clause-same : goal.returns-clause-same
returns-clause-same c = written_kept c.args.nodes.now c.args.index _ c.requires.within (search arith)

pub returns-clause-firsts : goal.returns-clause-firsts
returns-clause-firsts c = written_alike c.args.nodes.now c.args.index _ c.requires.within (λ (p : Plan). p.first) (search arith)
