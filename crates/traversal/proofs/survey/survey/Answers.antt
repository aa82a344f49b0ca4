use Rattle.std.proofs.Common.{sym, ap, ◌∙◌, arith, rules}
use Rattle.std.proofs.lemmas.Result.{err_from_is_err_and}
use Rattle.std.proofs.lemmas.List.{drop_all, length-map}
use Rattle.traversal.specs.Order.{visited}
use Rattle.traversal.specs.Survey.{survey_from}
use Rattle.traversal.proofs.Lists.{ordered}
use Rattle.traversal.proofs.Surveys.{survey_more, survey_stops, chain_few, survey_is}
use Rattle.traversal.proofs.survey.survey.Goals as goal

pub returns-in_err-total : goal.returns-in_err-total
returns-in_err-total g c =
    let h = g.H.Host.errors c.args.host.now in
    let p = err_from_is_err_and c.from_residual.result c.from_residual.ensures.1 in
    let all = survey_stops h c.args.order.now c.loop-visit.visit-index c.loop-visit.total _ c.loop-visit-test.true c.number.ensures _ c.in_err-total.ensures ∙ c.loop-visit.invariant.0 in
    rw (p.1, p.2) (record { listed = all; report = λ t q. all ∙ survey_is h _ (g.met.H.Host.lawful c.args.host.now) t _ q })

pub overflow_add-total : goal.overflow_add-total
overflow_add-total g c =
    let h = g.H.Host.errors c.args.host.now in
    let few = chain_few h c.number.result c.in_ok-total.field-0 c.number.type_inv c.in_ok-total.ensures in
    let t = c.loop-visit.invariant.1 in
    let k = c.loop-visit-test.true in
    let m = c.requires in
    search rules

pub loop-visit-preserved : goal.loop-visit-preserved
loop-visit-preserved g c =
    let h = g.H.Host.errors c.args.host.now in
    let few = chain_few h c.number.result c.in_ok-total.field-0 c.number.type_inv c.in_ok-total.ensures in
    let t = c.loop-visit.invariant.1 in
    (survey_more h c.args.order.now c.loop-visit.visit-index c.loop-visit.total _ c.loop-visit-test.true c.number.ensures _ c.in_ok-total.ensures ∙ c.loop-visit.invariant.0, omega arith)

pub returns-clause-report : goal.returns-clause-report
returns-clause-report g c =
    let h = g.H.Host.errors c.args.host.now in
    let none = drop_all c.loop-visit.visit-index (ordered c.args.order.now) (let l = length-map c.args.order.now visited in let t = c.loop-visit-test.false in omega arith) in
    λ t q. sym (ap (survey_from h c.loop-visit.total) none) ∙ c.loop-visit.invariant.0 ∙ survey_is h _ (g.met.H.Host.lawful c.args.host.now) t _ q
