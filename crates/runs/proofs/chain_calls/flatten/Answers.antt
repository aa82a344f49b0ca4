use Rattle.std.proofs.Common.{◌≡◌, length, vec_len, rules, arith, ◌∙◌}
use Rattle.std.proofs.lemmas.Grind.{common_steps}
use Rattle.nodes.specs.Flattening.{flattening}
use Rattle.runs.proofs.Chains.{list_of}
use Rattle.runs.proofs.Standing.{into_chain_stands}
use Rattle.runs.proofs.chain_calls.flatten.Goals as goal

pub returns-in-Ok-clause-flattened : goal.returns-in-Ok-clause-flattened
returns-in-Ok-clause-flattened g c =
    let r : vec_len c.args.list ≡ length c.deref_mut.result.now = search rules in
    let k = c.in-Ok.ensures in
    let n : c.truncate.new.self.items ≡ flattening (g.H.Host.errors c.args.host.now) k.tree = grind (arith, common_steps) in
    list_of c.args.store.now c.into_chain.new.store (g.H.Host.errors c.args.host.now) c.args.report _ c.into_chain.new.list c.in-Ok.chain k _ r _ (n ∙ (k.again _ (λ e m q. q)).lists)

pub returns-in-Ok-clause-stands : goal.returns-in-Ok-clause-stands
returns-in-Ok-clause-stands g c = λ r. into_chain_stands (g.H.Host.errors c.args.host.now) _ _ c.args.report _ _ c.in-Ok.chain r c.in-Ok.ensures
