use Rattle.runs.proofs.session.Session.raise.Goals as goal
use Rattle.runs.proofs.Standing.{raise_stands}
use Rattle.runs.proofs.Keeping.{kept_out, raised_below, raised_held, raised_keeps, raised_rows}

pub add-requires-clause-within : goal.add-requires-clause-within
add-requires-clause-within g c = raised_below _ _ c.in_ok-report.report _ _ _ _ c.in-Ok.ensures

pub invariant_of-self-in-Ok-clause-reports_kept : goal.invariant_of-self-in-Ok-clause-reports_kept
invariant_of-self-in-Ok-clause-reports_kept g c =
    let s = c.args.self.now in
    let out = kept_out s.store s.other _ s.reports.table c.take.new.self.table s.reports.foreign c.args.name c.in_ok-report.report (raised_held _ _ c.in_ok-report.report _ _ _ _ c.in-Ok.ensures) c.in_ok-report.ensures.token s.foreign_kept s.apart s.reports_kept c.take.ensures.tokens in
    raised_keeps _ _ c.in_ok-report.report _ _ _ _ c.in-Ok.ensures c.take.new.self.table out _ c.add.ensures.tokens

pub invariant_of-self-in-Ok-clause-baskets_kept : goal.invariant_of-self-in-Ok-clause-baskets_kept
invariant_of-self-in-Ok-clause-baskets_kept g c = raised_rows _ _ c.in_ok-report.report _ _ _ _ c.in-Ok.ensures _ c.args.self.now.baskets_kept

pub returns-in-Ok-clause-stands : goal.returns-in-Ok-clause-stands
returns-in-Ok-clause-stands g c = λ r. raise_stands (g.H.Host.errors c.args.host.now) _ _ c.in_ok-report.report c.args.error c.args.place _ r c.in-Ok.ensures
