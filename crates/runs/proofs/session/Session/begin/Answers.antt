use Rattle.runs.proofs.session.Session.begin.Goals as goal
use Rattle.runs.proofs.Keeping.{made_below, made_keeps, made_rows}
use Rattle.runs.proofs.Standing.{new_stands}

pub add-requires-clause-within : goal.add-requires-clause-within
add-requires-clause-within g c = made_below _ _ _ _ _ _ c.in_ok-report.ensures

pub invariant_of-self-2-clause-reports_kept : goal.invariant_of-self-2-clause-reports_kept
invariant_of-self-2-clause-reports_kept g c = made_keeps _ _ _ _ _ _ c.in_ok-report.ensures c.args.self.now.reports.table c.args.self.now.reports_kept _ c.add.ensures.tokens

pub invariant_of-self-2-clause-baskets_kept : goal.invariant_of-self-2-clause-baskets_kept
invariant_of-self-2-clause-baskets_kept g c = made_rows _ _ _ _ _ _ c.in_ok-report.ensures _ c.args.self.now.baskets_kept

pub returns-clause-stands : goal.returns-clause-stands
returns-clause-stands g c = λ r. new_stands (g.H.Host.errors c.args.host.now) _ _ c.args.error c.args.place _ r c.in_ok-report.ensures
