use Rattle.std.proofs.Common.{◌≡◌, rules}
use Rattle.readings.specs.Readings.{class_of}
use Rattle.questions.specs.Answers.{report_answer}
use Rattle.questions.specs.Never.{never}
use Rattle.questions.proofs.Reports.{class_made, given}
use Rattle.questions.proofs.report.dominant_class.Goals as goal

pub returns-in_err-findings-clause-reached : goal.returns-in_err-findings-clause-reached
returns-in_err-findings-clause-reached g c =
    let f = class_of (g.H.Host.errors c.args.host.now) in
    let e : c.from_residual.result ≡ report_answer c.args.store.now (g.H.Host.errors c.args.host.now) c.args.report.now f = search rules in
    given _ _ (g.met.H.Host.lawful c.args.host.now) c.args.store.now c.args.report.now f _ e

pub returns-clause-answer : goal.returns-clause-answer
returns-clause-answer g c = class_made c.args.store.now c.args.report.now _ never _ c.in_ok-findings.ensures

pub returns-clause-reached : goal.returns-clause-reached
returns-clause-reached g c = given _ _ (g.met.H.Host.lawful c.args.host.now) c.args.store.now c.args.report.now (class_of (g.H.Host.errors c.args.host.now)) _ (returns-clause-answer g c)
