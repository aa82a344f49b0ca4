use Rattle.std.proofs.Common.{arith}
use Rattle.trees.proofs.Options.{there}
use Rattle.traversal.proofs.Reports.{order_is, begun, counted, no_cause}
use Rattle.traversal.proofs.Walks.{report_few}
use Rattle.traversal.proofs.report.flatten_report.Goals as goal

pub flatten-requires : goal.flatten-requires
flatten-requires g c =
    let t = there _ c.requires in
    let is = order_is _ _ _ t.0 t.1 c.breadth_first.ensures c.as_slice-order.ensures.value in
    ∣ (t.0, begun _ _ _ _ t.0 is (c.in_ok-total.ensures.report t.0 is) c.if-list-total.false) ∣₁

pub returns : goal.returns
returns g c = λ t e.
    let is = order_is _ _ _ t e c.breadth_first.ensures c.as_slice-order.ensures.value in
    let said = c.in_ok-total.ensures.report t is in (
      no_cause _ t _ _ said c.if-list-total.false,
      (counted _ t _ said).1,
      c.flatten.ensures t (begun _ _ _ _ t is said c.if-list-total.false),
    )

pub breadth_first-requires : goal.breadth_first-requires
breadth_first-requires g c = (omega arith, (c.requires, (c.new-order.ensures, (report_few c.args.frames.now c.args.root c.requires, omega arith))))
