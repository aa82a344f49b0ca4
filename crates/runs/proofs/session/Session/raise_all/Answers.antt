use Rattle.std.proofs.Common.{sym, refl, subst}
use Rattle.runs.proofs.session.Session.raise_all.Goals as goal
use Rattle.runs.proofs.Standing.{raise_all_stands}
use Rattle.runs.proofs.Keeping.{fresh_below, fresh_keeps}
use Rattle.runs.proofs.Rows.{back_kept, out, out_gone, out_vacant, reports_same}
use Rattle.runs.specs.Tokens.{VacantRow}
use Rattle.store.specs.Token.{Basket}

pub add-requires-clause-within : goal.add-requires-clause-within
add-requires-clause-within g c = fresh_below _ _ _ c.in-Ok.raised _ c.in-Ok.ensures.granted.became (λ j. refl)

pub give_back-requires-clause-vacant : goal.give_back-requires-clause-vacant
give_back-requires-clause-vacant g c =
    let s = c.args.self.now in
    let t = c.in_ok-basket.ensures in
    let w = out s.store.number s.other.number _ _ _ _ c.args.name c.in_ok-basket.basket s.baskets_kept t.token t.tokens in
    let v = out_vacant s.store s.baskets.table _ c.in_ok-basket.basket s.baskets_kept w in
    subst (λ (b : Basket). VacantRow c.take.new.self.table.tokens.items b.root) (sym c.in-Err.ensures.1) v

pub invariant_of-self-in-Ok-clause-reports_kept : goal.invariant_of-self-in-Ok-clause-reports_kept
invariant_of-self-in-Ok-clause-reports_kept g c =
    fresh_keeps _ _ _ c.in-Ok.raised _ c.in-Ok.ensures.granted.became (λ j. refl) c.in-Ok.ensures.open_exn c.args.self.now.reports.table c.args.self.now.reports_kept _ c.add.ensures.tokens

pub invariant_of-self-in-Ok-clause-baskets_kept : goal.invariant_of-self-in-Ok-clause-baskets_kept
invariant_of-self-in-Ok-clause-baskets_kept g c =
    let s = c.args.self.now in
    let t = c.in_ok-basket.ensures in
    let w = out s.store.number s.other.number _ _ _ _ c.args.name c.in_ok-basket.basket s.baskets_kept t.token t.tokens in
    out_gone s.store s.baskets.table _ c.in_ok-basket.basket s.baskets_kept w _ _ c.in-Ok.ensures.granted.became (λ j. refl)

pub invariant_of-self-in-Err-clause-baskets_kept : goal.invariant_of-self-in-Err-clause-baskets_kept
invariant_of-self-in-Err-clause-baskets_kept g c =
    let s = c.args.self.now in
    let t = c.in_ok-basket.ensures in
    let w = out s.store.number s.other.number _ _ _ _ c.args.name c.in_ok-basket.basket s.baskets_kept t.token t.tokens in
    let a = c.in-Err.ensures in
    let b = c.give_back.ensures in
    back_kept s.store _ _ s.baskets.table _ _ c.in_ok-basket.basket c.in-Err.refusal.given s.baskets_kept w a.0.same a.1 b.tokens b.same

pub invariant_of-self-in-Err-clause-reports_kept : goal.invariant_of-self-in-Err-clause-reports_kept
invariant_of-self-in-Err-clause-reports_kept g c = reports_same c.args.self.now.store _ _ _ c.in-Err.ensures.0.same c.give_back.ensures.same c.args.self.now.reports_kept

pub returns-in-Ok-clause-stands : goal.returns-in-Ok-clause-stands
returns-in-Ok-clause-stands g c = λ r. raise_all_stands (g.H.Host.errors c.args.host.now) _ _ c.in_ok-basket.basket c.args.error c.args.place _ r c.in-Ok.ensures
