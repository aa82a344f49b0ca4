use Rattle.std.proofs.Common.{◌≡◌, true, rules}
use Rattle.store.proofs.Accepted.{over_new, raised_new}
use Rattle.store.specs.Calls.{token_held}
use Rattle.store.proofs.store.Store.raise.Goals as goal

pub join-requires-clause-held : goal.join-requires-clause-held
join-requires-clause-held g c =
    let v : token_held g.R.Root.live c.args.self.now c.args.token ≡ true = search rules in
    (over_new g.met.R.Root.raises c.args.self.now c.begin.new.self (g.H.Host.errors c.args.host.now) c.args.error c.args.place c.begin.result c.args.token _ _ _ _ c.begin.ensures v (search rules) _ c.beside.ensures c.in_ok-root.was c.spend.ensures).live

pub join-requires-clause-differs : goal.join-requires-clause-differs
join-requires-clause-differs g c =
    let v : token_held g.R.Root.live c.args.self.now c.args.token ≡ true = search rules in
    (over_new g.met.R.Root.raises c.args.self.now c.begin.new.self (g.H.Host.errors c.args.host.now) c.args.error c.args.place c.begin.result c.args.token _ _ _ _ c.begin.ensures v (search rules) _ c.beside.ensures c.in_ok-root.was c.spend.ensures).apart

pub returns : goal.returns
returns g c =
    let v : token_held g.R.Root.live c.args.self.now c.args.token ≡ true = search rules in
    raised_new g.met.R.Root.raises c.args.self.now c.begin.new.self (g.H.Host.errors c.args.host.now) c.args.error c.args.place c.begin.result c.args.token _ _ _ _ c.begin.ensures v (search rules) _ c.beside.ensures c.in_ok-root.was c.spend.ensures _ _ c.join.ensures c.token.ensures
