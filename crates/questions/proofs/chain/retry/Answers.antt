use Rattle.questions.proofs.Nodes.{verdict_made}
use Rattle.questions.proofs.chain.retry.Goals as goal

pub returns : goal.returns
returns g c = verdict_made _ _ (g.P.Policy.accepted c.args.policy.now) _ c.in_ok-findings.ensures _ c.may_retry.ensures
