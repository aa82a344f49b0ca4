use Rattle.std.proofs.Common.{◌≡◌, sym, ◌∙◌, subst, rules}
use Rattle.std.proofs.lemmas.Result.{err_from_is_err_and}
use Rattle.readings.specs.Readings.{Cause, cause}
use Rattle.readings.proofs.Laws.{cause_stands}
use Rattle.questions.specs.Answers.{report_answer}
use Rattle.questions.proofs.Reports.{cause_given, caused_report, given, live_made, root_tree}
use Rattle.questions.proofs.report.probable_cause.Goals as goal

pub returns-clause-answer : goal.returns-clause-answer
returns-clause-answer g c = caused_report c.args.store.now c.args.report.now (g.H.Host.errors c.args.host.now) _ c.in_ok-root.ensures _ c.frames.ensures _ c.in_ok-cause_beneath.ensures

pub returns-in_err-cause_beneath-clause-answer : goal.returns-in_err-cause_beneath-clause-answer
returns-in_err-cause_beneath-clause-answer g c =
    let p = err_from_is_err_and c.from_residual-in_err-cause_beneath.result c.from_residual-in_err-cause_beneath.ensures.1 in
    rw (p.1, p.2) (caused_report c.args.store.now c.args.report.now (g.H.Host.errors c.args.host.now) _ c.in_ok-root.ensures _ c.frames.ensures _ c.in_err-cause_beneath.ensures)

pub returns-clause-stands : goal.returns-clause-stands
returns-clause-stands g c = λ t e is q.
    let h = g.H.Host.errors c.args.host.now in
    let it : c.in_ok-cause_beneath.field-0 ≡ e = cc in
    let same = live_made _ _ _ (c.in_ok-cause_beneath.ensures t (root_tree c.args.store.now c.args.report.now _ c.in_ok-root.ensures _ c.frames.ensures t is)) in
    subst (Cause h t) (sym same ∙ it) (cause_stands h t)

pub returns-in_err-root-clause-reached : goal.returns-in_err-root-clause-reached
returns-in_err-root-clause-reached g c =
    let f = cause (g.H.Host.errors c.args.host.now) in
    let e : c.from_residual.result ≡ report_answer c.args.store.now (g.H.Host.errors c.args.host.now) c.args.report.now f = search rules in
    given _ _ (g.met.H.Host.lawful c.args.host.now) c.args.store.now c.args.report.now f _ e

pub returns-in_err-cause_beneath-clause-reached : goal.returns-in_err-cause_beneath-clause-reached
returns-in_err-cause_beneath-clause-reached g c =
    given _ _ (g.met.H.Host.lawful c.args.host.now) c.args.store.now c.args.report.now (cause (g.H.Host.errors c.args.host.now)) _ (returns-in_err-cause_beneath-clause-answer g c)

pub returns-clause-reached : goal.returns-clause-reached
returns-clause-reached g c =
    given _ _ (g.met.H.Host.lawful c.args.host.now) c.args.store.now c.args.report.now (cause (g.H.Host.errors c.args.host.now)) _ (returns-clause-answer g c)

pub returns-in_err-root-clause-cause_reached : goal.returns-in_err-root-clause-cause_reached
returns-in_err-root-clause-cause_reached g c = cause_given _ c.args.store.now c.args.report.now _ (returns-in_err-root-clause-reached g c)

pub returns-in_err-cause_beneath-clause-cause_reached : goal.returns-in_err-cause_beneath-clause-cause_reached
returns-in_err-cause_beneath-clause-cause_reached g c = cause_given _ c.args.store.now c.args.report.now _ (returns-in_err-cause_beneath-clause-reached g c)

pub returns-clause-cause_reached : goal.returns-clause-cause_reached
returns-clause-cause_reached g c = cause_given _ c.args.store.now c.args.report.now _ (returns-clause-reached g c)
