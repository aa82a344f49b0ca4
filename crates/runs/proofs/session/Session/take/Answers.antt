use Rattle.std.proofs.Common.{refl}
use Rattle.runs.proofs.session.Session.take.Goals as goal
use Rattle.runs.proofs.Standing.{take_stands}
use Rattle.runs.proofs.Rows.{back_kept, basket_number, out, reports_same, rows_same, taken_none, taken_out, taken_reports, taken_rows, taken_vacant}

pub put-requires-clause-vacant : goal.put-requires-clause-vacant
put-requires-clause-vacant c =
    let s = c.args.self.now in
    let t = c.in_ok-basket.ensures in
    let w = out s.store.number s.other.number _ _ _ _ c.args.name c.in_ok-basket.basket s.baskets_kept t.token t.tokens in
    let d = taken_out s.store _ c.in_ok-basket.basket c.take-2.new.self c.in-Ok-Some.field-0 c.in-Ok-Some.report c.in-Ok-Some.field-0-is c.in-Ok-Some.ensures in
    taken_vacant s.store _ c.in_ok-basket.basket c.take-2.new.self c.in-Ok-Some.report d s.baskets.table s.baskets_kept _ w

pub invariant_of-self-in-Ok-Some-clause-reports_kept : goal.invariant_of-self-in-Ok-Some-clause-reports_kept
invariant_of-self-in-Ok-Some-clause-reports_kept c =
    let s = c.args.self.now in
    let t = c.in_ok-basket.ensures in
    let w = out s.store.number s.other.number _ _ _ _ c.args.name c.in_ok-basket.basket s.baskets_kept t.token t.tokens in
    let d = taken_out s.store _ c.in_ok-basket.basket c.take-2.new.self c.in-Ok-Some.field-0 c.in-Ok-Some.report c.in-Ok-Some.field-0-is c.in-Ok-Some.ensures in
    reports_same _ _ _ _ refl c.put.ensures.same (taken_reports s.store _ c.in_ok-basket.basket c.take-2.new.self c.in-Ok-Some.report d s.baskets.table s.baskets_kept _ w s.reports.table s.reports_kept _ c.add-report.ensures.tokens)

pub invariant_of-self-in-Ok-Some-clause-baskets_kept : goal.invariant_of-self-in-Ok-Some-clause-baskets_kept
invariant_of-self-in-Ok-Some-clause-baskets_kept c =
    let s = c.args.self.now in
    let t = c.in_ok-basket.ensures in
    let w = out s.store.number s.other.number _ _ _ _ c.args.name c.in_ok-basket.basket s.baskets_kept t.token t.tokens in
    let d = taken_out s.store _ c.in_ok-basket.basket c.take-2.new.self c.in-Ok-Some.field-0 c.in-Ok-Some.report c.in-Ok-Some.field-0-is c.in-Ok-Some.ensures in
    rows_same _ _ _ _ refl c.put.ensures.same (taken_rows s.store _ c.in_ok-basket.basket c.take-2.new.self c.in-Ok-Some.report d s.baskets.table s.baskets_kept _ w (basket_number s.store c.in_ok-basket.basket _ d.granted.free) w.unspent _ c.put.ensures.tokens)

pub returns-in-Ok-Some-clause-stands : goal.returns-in-Ok-Some-clause-stands
returns-in-Ok-Some-clause-stands c = λ h r.
    let s = c.args.self.now in
    let d = taken_out s.store _ c.in_ok-basket.basket c.take-2.new.self c.in-Ok-Some.field-0 c.in-Ok-Some.report c.in-Ok-Some.field-0-is c.in-Ok-Some.ensures in
    c.put.ensures.stands h (take_stands h s.store _ c.in_ok-basket.basket c.take-2.new.self c.in-Ok-Some.report r d)

pub invariant_of-self-in-Ok-None-clause-reports_kept : goal.invariant_of-self-in-Ok-None-clause-reports_kept
invariant_of-self-in-Ok-None-clause-reports_kept c =
    let s = c.args.self.now in
    let t = c.in_ok-basket.ensures in
    let w = out s.store.number s.other.number _ _ _ _ c.args.name c.in_ok-basket.basket s.baskets_kept t.token t.tokens in
    let n = taken_none s.store _ c.in_ok-basket.basket c.take-2.new.self _ c.in-Ok-None.field-0-is c.in-Ok-None.ensures in
    reports_same s.store _ _ _ n.0 c.put_back.ensures.same s.reports_kept

pub invariant_of-self-in-Ok-None-clause-baskets_kept : goal.invariant_of-self-in-Ok-None-clause-baskets_kept
invariant_of-self-in-Ok-None-clause-baskets_kept c =
    let s = c.args.self.now in
    let t = c.in_ok-basket.ensures in
    let w = out s.store.number s.other.number _ _ _ _ c.args.name c.in_ok-basket.basket s.baskets_kept t.token t.tokens in
    let n = taken_none s.store _ c.in_ok-basket.basket c.take-2.new.self _ c.in-Ok-None.field-0-is c.in-Ok-None.ensures in
    back_kept s.store _ _ s.baskets.table _ _ c.in_ok-basket.basket c.take-2.new.self s.baskets_kept w n.0 n.1 c.put_back.ensures.tokens c.put_back.ensures.same
