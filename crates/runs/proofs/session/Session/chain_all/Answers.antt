use Rattle.std.proofs.Common.{sym, refl, subst}
use Rattle.runs.proofs.session.Session.chain_all.Goals as goal
use Rattle.runs.proofs.Standing.{chain_all_stands}
use Rattle.runs.proofs.Rows.{back_kept, out, out_gone, out_vacant, reports_same, reports_stay, under_some}
use Rattle.runs.specs.Tokens.{VacantRow}
use Rattle.store.specs.Token.{Basket}

pub give_back-requires-clause-vacant : goal.give_back-requires-clause-vacant
give_back-requires-clause-vacant c =
    let s = c.args.self.now in
    let t = c.in_ok-basket.ensures in
    let w = out s.store.number s.other.number _ _ _ _ c.args.other c.in_ok-basket.basket s.baskets_kept t.token t.tokens in
    let v = out_vacant s.store s.baskets.table _ c.in_ok-basket.basket s.baskets_kept w in
    subst (λ (b : Basket). VacantRow c.take.new.self.table.tokens.items b.root) (sym c.in-Err.ensures.1) v

pub invariant_of-self-in-Ok-clause-reports_kept : goal.invariant_of-self-in-Ok-clause-reports_kept
invariant_of-self-in-Ok-clause-reports_kept c =
    reports_stay c.args.self.now.store _ _ c.in_ok-report.report.now.root _ _ c.in-Ok.ensures.became (λ j. refl) (under_some _ _) c.args.self.now.reports_kept

pub invariant_of-self-in-Ok-clause-baskets_kept : goal.invariant_of-self-in-Ok-clause-baskets_kept
invariant_of-self-in-Ok-clause-baskets_kept c =
    let s = c.args.self.now in
    let t = c.in_ok-basket.ensures in
    let w = out s.store.number s.other.number _ _ _ _ c.args.other c.in_ok-basket.basket s.baskets_kept t.token t.tokens in
    out_gone s.store s.baskets.table _ c.in_ok-basket.basket s.baskets_kept w _ _ c.in-Ok.ensures.became (λ j. refl)

pub invariant_of-self-in-Err-clause-baskets_kept : goal.invariant_of-self-in-Err-clause-baskets_kept
invariant_of-self-in-Err-clause-baskets_kept c =
    let s = c.args.self.now in
    let t = c.in_ok-basket.ensures in
    let w = out s.store.number s.other.number _ _ _ _ c.args.other c.in_ok-basket.basket s.baskets_kept t.token t.tokens in
    let a = c.in-Err.ensures in
    let b = c.give_back.ensures in
    back_kept s.store _ _ s.baskets.table _ _ c.in_ok-basket.basket c.in-Err.refusal.given s.baskets_kept w a.0.same a.1 b.tokens b.same

pub invariant_of-self-in-Err-clause-reports_kept : goal.invariant_of-self-in-Err-clause-reports_kept
invariant_of-self-in-Err-clause-reports_kept c = reports_same c.args.self.now.store _ _ _ c.in-Err.ensures.0.same c.give_back.ensures.same c.args.self.now.reports_kept

pub returns-in-Ok-clause-stands : goal.returns-in-Ok-clause-stands
returns-in-Ok-clause-stands c = λ h r. chain_all_stands h _ _ c.in_ok-report.report.now c.in_ok-basket.basket r c.in-Ok.ensures
