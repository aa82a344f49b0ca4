use Rattle.runs.proofs.chain_calls.build.Goals as goal
use Rattle.runs.proofs.Standing.{into_exn_stands}

pub returns-in-Ok-clause-stands : goal.returns-in-Ok-clause-stands
returns-in-Ok-clause-stands g c = λ r. into_exn_stands (g.H.Host.errors c.args.host.now) _ _ c.of.result c.args.list.now c.in-Ok.report r c.in-Ok.ensures.built
