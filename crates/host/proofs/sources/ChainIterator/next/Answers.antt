use Rattle.std.proofs.Common.{sym, ◌∙◌, rules}
use Rattle.host.proofs.Chains.{chain_next}
use Rattle.host.proofs.sources.ChainIterator.next.Goals as goal

pub returns-clause-steps : goal.returns-clause-steps
returns-clause-steps g c =
    let host = c.self.inside.host.now in
    let n = sym c.self.view_is ∙ chain_next (g.H.Host.errors host) _ (g.met.H.Host.lawful host) c.self.inside.at c.in_ok-error.error (search rules) in
    search rules

pub returns-clause-goes : goal.returns-clause-goes
returns-clause-goes g c = let e = returns-clause-steps g c in search rules
