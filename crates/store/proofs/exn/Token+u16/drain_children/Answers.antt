use Rattle.std.proofs.Common.{◌≡◌, true, refl, rules}
use Rattle.store.proofs.Accepted.{drained_into}
use Rattle.store.specs.Calls.{report_held}
use Rattle.store.proofs.exn.Token+u16.drain_children.Goals as goal

-- the drain is found by what it says and not by its name, so a body without one is refused for what it leaves
pub returns : goal.returns
returns c =
    let v : report_held c.args.store.now c.args.self.now ≡ true = search rules in
    drained_into c.args.store.now _ c.args.self.now c.in_ok-root.root _ c.token.result v (search rules) refl c.token.ensures (search rules)
