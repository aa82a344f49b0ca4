use Rattle.std.proofs.Common.{sym, subst}
use Rattle.runs.proofs.session.Session.make.Goals as goal
use Rattle.runs.specs.Session.{Ends, state_of}
use Rattle.runs.specs.declared.call.Call.{Call}

pub returns-in-Chain-clause-step : goal.returns-in-Chain-clause-step
returns-in-Chain-clause-step g c = let h = g.H.Host.errors c.args.host.now in subst (λ (k : Call). Ends (state_of h c.args.self.now) k (state_of h c.chain.new.self) c.chain.result) (sym c.in-Chain.is) (c.chain.ensures.step h)

pub returns-in-ChainAll-clause-step : goal.returns-in-ChainAll-clause-step
returns-in-ChainAll-clause-step g c = let h = g.H.Host.errors c.args.host.now in subst (λ (k : Call). Ends (state_of h c.args.self.now) k (state_of h c.chain_all.new.self) c.chain_all.result) (sym c.in-ChainAll.is) (c.chain_all.ensures.step h)

pub returns-in-Basket-clause-step : goal.returns-in-Basket-clause-step
returns-in-Basket-clause-step g c = let h = g.H.Host.errors c.args.host.now in subst (λ (k : Call). Ends (state_of h c.args.self.now) k (state_of h c.basket.new.self) c.basket.result) (sym c.in-Basket.is) (c.basket.ensures.step h)

pub returns-in-Collect-clause-step : goal.returns-in-Collect-clause-step
returns-in-Collect-clause-step g c = let h = g.H.Host.errors c.args.host.now in subst (λ (k : Call). Ends (state_of h c.args.self.now) k (state_of h c.collect.new.self) c.collect.result) (sym c.in-Collect.is) (c.collect.ensures.step h)

pub returns-in-Take-clause-step : goal.returns-in-Take-clause-step
returns-in-Take-clause-step g c = let h = g.H.Host.errors c.args.host.now in subst (λ (k : Call). Ends (state_of h c.args.self.now) k (state_of h c.take.new.self) c.take.result) (sym c.in-Take.is) (c.take.ensures.step h)

pub returns-in-DrainChildren-clause-step : goal.returns-in-DrainChildren-clause-step
returns-in-DrainChildren-clause-step g c = let h = g.H.Host.errors c.args.host.now in subst (λ (k : Call). Ends (state_of h c.args.self.now) k (state_of h c.drain_children.new.self) c.drain_children.result) (sym c.in-DrainChildren.is) (c.drain_children.ensures.step h)

pub returns-in-Discard-clause-step : goal.returns-in-Discard-clause-step
returns-in-Discard-clause-step g c = let h = g.H.Host.errors c.args.host.now in subst (λ (k : Call). Ends (state_of h c.args.self.now) k (state_of h c.discard.new.self) c.discard.result) (sym c.in-Discard.is) (c.discard.ensures.step h)

pub returns-in-DiscardBasket-clause-step : goal.returns-in-DiscardBasket-clause-step
returns-in-DiscardBasket-clause-step g c = let h = g.H.Host.errors c.args.host.now in subst (λ (k : Call). Ends (state_of h c.args.self.now) k (state_of h c.discard_basket.new.self) c.discard_basket.result) (sym c.in-DiscardBasket.is) (c.discard_basket.ensures.step h)

pub returns-in-ChainOf-clause-step : goal.returns-in-ChainOf-clause-step
returns-in-ChainOf-clause-step g c = let h = g.H.Host.errors c.args.host.now in subst (λ (k : Call). Ends (state_of h c.args.self.now) k (state_of h c.chain_of.new.self) c.chain_of.result) (sym c.in-ChainOf.is) (c.chain_of.ensures.step h)
