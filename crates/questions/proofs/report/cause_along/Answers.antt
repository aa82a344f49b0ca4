use Rattle.std.proofs.Common.{Ok, ap, ◌∙◌, arith}
use Rattle.std.proofs.lemmas.Result.{err_from_is_err_and}
use Rattle.trees.proofs.Options.{there}
use Rattle.traversal.proofs.Reports.{order_is}
use Rattle.questions.proofs.Reports.{surveyed, unsurveyed}
use Rattle.questions.proofs.report.cause_along.Goals as goal

pub survey-requires : goal.survey-requires
survey-requires g c = let few = c.as_slice.ensures.fits in let small = c.requires.small in omega arith

pub returns-in_err-survey : goal.returns-in_err-survey
returns-in_err-survey g c = λ t is.
    let order = order_is _ _ _ t is c.breadth_first.ensures c.as_slice.ensures.value in
    let p = err_from_is_err_and c.from_residual.result c.from_residual.ensures.1 in
    rw (p.1, p.2) (unsurveyed _ _ _ _ (c.in_err-survey.ensures.report t order))

pub order_cause-requires : goal.order_cause-requires
order_cause-requires g c =
    let t = there _ c.requires.live in
    record {
      few = c.as_slice-2.ensures.fits;
      small = c.requires.small;
      frames = ∣ (t.0, order_is _ _ _ t.0 t.1 c.breadth_first.ensures c.as_slice-2.ensures.value) ∣₁;
    }

pub returns : goal.returns
returns g c = λ t is.
    let order = order_is _ _ _ t is c.breadth_first.ensures c.as_slice.ensures.value in
    let again = order_is _ _ _ t is c.breadth_first.ensures c.as_slice-2.ensures.value in
    ap Ok (c.order_cause.ensures t again) ∙ surveyed _ _ _ _ (c.in_ok-survey.ensures.report t order)
