use Rattle.std.proofs.Common.{◌≡◌, ℕ, ◌+◌, List, Option, Ok, length, ap, ◌∙◌, arith}
use Rattle.std.proofs.lemmas.Iterator.Consumers.{YieldsList-from_first, count_from_yields_List}
use Rattle.model.specs.Sources.{chain, chain_from}
use Rattle.model.proofs.Sources.{chain_is}
use Rattle.model.proofs.Steps.{answered}
use Rattle.host.proofs.Chains.{constantly}
use Rattle.host.proofs.sources.chain_len.Goals as goal

pub returns : goal.returns
returns g c =
    let host = c.args.host.now in
    let h = g.H.Host.errors host in
    let e = c.args.error in
    let told = answered (h e) e _ _ c.in_ok-source.ensures in
    let count = count_from_yields_List _ _ c.count.ensures.ran (YieldsList-from_first (λ e. e) (λ rest. rest) _ c.starting_at.ensures) in
    let rest = count ∙ ap (λ (o : Option ℕ). length (chain_from h o)) told.2 in
    let longer = ap (λ (es : List ℕ). length es) (chain_is h _ (g.met.H.Host.lawful host) e told.0 told.1) in
    let whole : 1 + c.count.result ≡ length (chain h e) = omega (arith, rest, longer) in
    ap Ok whole ∙ constantly (h e) e _ _ _ c.in_ok-source.ensures
