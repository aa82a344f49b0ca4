use Rattle.std.proofs.Common.{refl, sym, subst}
use Rattle.runs.proofs.session.Session.collect.Goals as goal
use Rattle.runs.proofs.Keeping.{kept_out}
use Rattle.runs.proofs.Standing.{collect_stands}
use Rattle.runs.proofs.Rows.{back_kept, collected_held, collected_reports, collected_rows, collected_vacant, out, out_vacant, reports_same, rows_same}
use Rattle.runs.specs.Tokens.{VacantRow}
use Rattle.store.specs.Token.{Basket}

pub put-requires-clause-vacant : goal.put-requires-clause-vacant
put-requires-clause-vacant c =
    let s = c.args.self.now in
    let t = c.in-Ok.ensures in
    let w = out s.store.number s.other.number _ _ _ _ c.args.name c.in-Ok.basket s.baskets_kept t.token t.tokens in
    collected_vacant s.store c.collect.new.store c.in-Ok.basket c.collect.new.self c.in_ok-report.report c.in-Ok-collect.ensures s.baskets.table s.baskets_kept c.take-2.new.self.table.tokens.items w

pub put_back-requires-clause-vacant : goal.put_back-requires-clause-vacant
put_back-requires-clause-vacant c =
    let s = c.args.self.now in
    let t = c.in-Ok.ensures in
    let w = out s.store.number s.other.number _ _ _ _ c.args.name c.in-Ok.basket s.baskets_kept t.token t.tokens in
    let v = out_vacant s.store s.baskets.table c.take-2.new.self.table.tokens.items c.in-Ok.basket s.baskets_kept w in
    subst (λ (b : Basket). VacantRow c.take-2.new.self.table.tokens.items b.root) (sym c.in-Err-collect.ensures.1) v

pub invariant_of-self-in-Ok-collect-clause-reports_kept : goal.invariant_of-self-in-Ok-collect-clause-reports_kept
invariant_of-self-in-Ok-collect-clause-reports_kept c =
    let s = c.args.self.now in
    let t = c.in-Ok.ensures in
    let w = out s.store.number s.other.number _ _ _ _ c.args.name c.in-Ok.basket s.baskets_kept t.token t.tokens in
    let r = c.in_ok-report.ensures in
    let k = kept_out s.store s.other _ s.reports.table c.take.new.self.table s.reports.foreign c.args.other c.in_ok-report.report (collected_held s.store c.collect.new.store c.in-Ok.basket c.collect.new.self c.in_ok-report.report c.in-Ok-collect.ensures s.baskets.table s.baskets_kept c.take-2.new.self.table.tokens.items w) r.token s.foreign_kept s.apart s.reports_kept r.tokens in
    reports_same _ _ _ _ refl c.put.ensures.same (collected_reports s.store c.collect.new.store c.in-Ok.basket c.collect.new.self c.in_ok-report.report c.in-Ok-collect.ensures s.baskets.table s.baskets_kept c.take-2.new.self.table.tokens.items w _ k)

pub invariant_of-self-in-Ok-collect-clause-baskets_kept : goal.invariant_of-self-in-Ok-collect-clause-baskets_kept
invariant_of-self-in-Ok-collect-clause-baskets_kept c =
    let s = c.args.self.now in
    let t = c.in-Ok.ensures in
    let w = out s.store.number s.other.number _ _ _ _ c.args.name c.in-Ok.basket s.baskets_kept t.token t.tokens in
    rows_same _ _ _ _ refl c.put.ensures.same (collected_rows s.store c.collect.new.store c.in-Ok.basket c.collect.new.self c.in_ok-report.report c.in-Ok-collect.ensures s.baskets.table s.baskets_kept c.take-2.new.self.table.tokens.items w _ c.put.ensures.tokens)

pub invariant_of-self-2-clause-baskets_kept : goal.invariant_of-self-2-clause-baskets_kept
invariant_of-self-2-clause-baskets_kept c =
    let s = c.args.self.now in
    let t = c.in-Ok.ensures in
    let w = out s.store.number s.other.number _ _ _ _ c.args.name c.in-Ok.basket s.baskets_kept t.token t.tokens in
    let e = c.in-Err-collect.ensures in
    back_kept s.store _ _ s.baskets.table _ _ c.in-Ok.basket c.collect.new.self s.baskets_kept w e.0.0.same e.1 c.put_back.ensures.tokens c.put_back.ensures.same

pub returns-in-Ok-collect-clause-stands : goal.returns-in-Ok-collect-clause-stands
returns-in-Ok-collect-clause-stands c = λ h r. c.put.ensures.stands h (collect_stands h c.args.self.now.store c.collect.new.store c.in-Ok.basket c.collect.new.self c.in_ok-report.report r c.in-Ok-collect.ensures)
