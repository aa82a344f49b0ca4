use Rattle.std.proofs.lemmas.Result.{err_from_is_err_and}
use Rattle.questions.proofs.Reports.{judged_report}
use Rattle.questions.proofs.report.findings.Goals as goal

pub returns-in_err-findings_beneath : goal.returns-in_err-findings_beneath
returns-in_err-findings_beneath g c =
    let host = c.args.host.now in
    let p = err_from_is_err_and c.from_residual-in_err-findings_beneath.result c.from_residual-in_err-findings_beneath.ensures.1 in
    rw (p.1, p.2) (judged_report c.args.store.now c.args.report.now (g.H.Host.errors host) _ (g.met.H.Host.lawful host) _ _ c.in_ok-root.ensures _ c.frames.ensures _ c.in_err-findings_beneath.ensures)

pub returns : goal.returns
returns g c =
    let host = c.args.host.now in
    judged_report c.args.store.now c.args.report.now (g.H.Host.errors host) _ (g.met.H.Host.lawful host) _ _ c.in_ok-root.ensures _ c.frames.ensures _ c.in_ok-findings_beneath.ensures
