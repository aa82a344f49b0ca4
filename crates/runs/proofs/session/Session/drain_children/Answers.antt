use Rattle.std.proofs.Common.{refl}
use Rattle.runs.proofs.session.Session.drain_children.Goals as goal
use Rattle.runs.proofs.Standing.{drain_stands}
use Rattle.runs.proofs.Rows.{drained_reports, drained_rows, drained_vacant, reports_same, rows_same}

pub add-requires-clause-vacant : goal.add-requires-clause-vacant
add-requires-clause-vacant c = let s = c.args.self.now in drained_vacant s.store _ c.in_ok-report.report.now c.in_ok-basket.basket c.in_ok-basket.ensures s.baskets.table s.baskets_kept

pub invariant_of-self-2-clause-reports_kept : goal.invariant_of-self-2-clause-reports_kept
invariant_of-self-2-clause-reports_kept c =
    let s = c.args.self.now in
    reports_same _ _ _ _ refl c.add.ensures.same (drained_reports s.store _ c.in_ok-report.report.now c.in_ok-basket.basket c.in_ok-basket.ensures s.baskets.table s.baskets_kept _ s.reports_kept)

pub invariant_of-self-2-clause-baskets_kept : goal.invariant_of-self-2-clause-baskets_kept
invariant_of-self-2-clause-baskets_kept c =
    let s = c.args.self.now in
    rows_same _ _ _ _ refl c.add.ensures.same (drained_rows s.store _ c.in_ok-report.report.now c.in_ok-basket.basket c.in_ok-basket.ensures s.baskets.table s.baskets_kept _ c.add.ensures.tokens)

pub returns-clause-stands : goal.returns-clause-stands
returns-clause-stands c = λ h r. c.add.ensures.stands h (drain_stands h _ _ c.in_ok-report.report.now _ r c.in_ok-basket.ensures)
