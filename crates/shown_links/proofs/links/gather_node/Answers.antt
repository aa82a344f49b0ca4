use Rattle.std.proofs.Common.{arith}
use Rattle.nodes.specs.declared.node.Plan.{Plan}
use Rattle.shown_links.proofs.Kept.{twice_first, twice_kept, twice_second}
use Rattle.shown_links.proofs.links.gather_node.Goals as goal

pub returns-clause-same : goal.returns-clause-same
returns-clause-same c = twice_kept c.args.nodes.now c.args.index c.args.parent _ _ c.requires.within c.requires.behind (search arith) (search arith)

pub returns-clause-other_firsts : goal.returns-clause-other_firsts
returns-clause-other_firsts c = twice_first c.args.nodes.now c.args.index c.args.parent _ _ c.requires.within c.requires.behind (λ (p : Plan). p.first) (search arith)

pub returns-clause-other_nexts : goal.returns-clause-other_nexts
returns-clause-other_nexts c = twice_second c.args.nodes.now c.args.index c.args.parent _ _ c.requires.within c.requires.behind (λ (p : Plan). p.next) (search arith)
