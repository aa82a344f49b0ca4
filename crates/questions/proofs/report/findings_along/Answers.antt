use Rattle.std.proofs.Common.{List, ap, ◌∙◌}
use Rattle.vocabulary.specs.declared.frame_error.FrameError.{FrameError}
use Rattle.readings.specs.ByFrames.{listed_errors}
use Rattle.listed_readings.specs.Judged.{judged}
use Rattle.traversal.proofs.Reports.{order_is}
use Rattle.questions.proofs.Reports.{order_errors}
use Rattle.questions.proofs.report.findings_along.Goals as goal

pub returns : goal.returns
returns g c = λ t is.
    let order = order_is _ _ _ t is c.breadth_first.ensures c.as_slice.ensures.value in
    c.judge.ensures ∙ ap (λ (es : List FrameError). judged (g.H.Host.errors c.args.host.now) (g.P.Policy.accepted c.args.policy.now) es) (order_errors c.as_slice.result.now ∙ ap listed_errors order)
