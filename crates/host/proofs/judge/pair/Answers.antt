use Rattle.std.proofs.Common.{Ok, ap, ◌∙◌}
use Rattle.model.proofs.Steps.{live_since}
use Rattle.host.proofs.Chains.{constantly, pair_is, the_same}
use Rattle.host.proofs.judge.pair.Goals as goal

pub returns : goal.returns
returns g c =
    let host = c.args.host.now in
    let told = g.H.Host.errors host in
    let e = c.args.error in
    let found = c.in_ok-challenge.ensures in
    let is = pair_is told _ (g.met.H.Host.lawful host) e c.in_ok-challenge.challenge (live_since told e _ _ found) (the_same (told e) e _ _ found) in
    ap Ok (c.pair_in_chain.ensures ∙ is) ∙ constantly (told e) e _ _ _ found
