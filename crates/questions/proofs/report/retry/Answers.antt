use Rattle.std.proofs.Common.{◌≡◌, rules}
use Rattle.readings.specs.Readings.{verdict_of}
use Rattle.questions.proofs.Reports.{given, verdict_made}
use Rattle.questions.specs.Answers.{report_answer}
use Rattle.questions.proofs.report.retry.Goals as goal

pub returns-in_err-findings-clause-reached : goal.returns-in_err-findings-clause-reached
returns-in_err-findings-clause-reached g c =
    let f = verdict_of (g.H.Host.errors c.args.host.now) (g.P.Policy.accepted c.args.policy.now) in
    let e : c.from_residual.result ≡ report_answer c.args.store.now (g.H.Host.errors c.args.host.now) c.args.report.now f = search rules in
    given _ _ (g.met.H.Host.lawful c.args.host.now) c.args.store.now c.args.report.now f _ e

pub returns-clause-answer : goal.returns-clause-answer
returns-clause-answer g c = verdict_made c.args.store.now c.args.report.now _ (g.P.Policy.accepted c.args.policy.now) _ c.in_ok-findings.ensures _ c.may_retry.ensures

pub returns-clause-reached : goal.returns-clause-reached
returns-clause-reached g c =
    given _ _ (g.met.H.Host.lawful c.args.host.now) c.args.store.now c.args.report.now (verdict_of (g.H.Host.errors c.args.host.now) (g.P.Policy.accepted c.args.policy.now)) _ (returns-clause-answer g c)
