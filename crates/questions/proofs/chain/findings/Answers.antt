use Rattle.std.proofs.Common.{List, subst, sym}
use Rattle.nodes.specs.declared.node.Node.{Node}
use Rattle.nodes.specs.Begins.{Flat}
use Rattle.store.specs.Chains.{nodes_in}
use Rattle.questions.proofs.Nodes.{judged_chain, judged_refused}
use Rattle.questions.proofs.chain.findings.Goals as goal

pub returns-in_err-judge : goal.returns-in_err-judge
returns-in_err-judge g c =
    let host = c.args.host.now in
    let flat = c.in_ok-check_flattening.ensures in
    absurd (judged_refused (g.H.Host.errors host) _ (g.met.H.Host.lawful host) c.front-nodes.result.now flat.0 flat.1 (g.P.Policy.accepted c.args.policy.now) _ c.in_err-judge.ensures)

pub returns : goal.returns
returns g c =
    let host = c.args.host.now in
    let h = g.H.Host.errors host in (
      subst (λ (xs : List Node). Flat (g.H.Host.errors c.args.host.now) xs) c.front-nodes.ensures c.in_ok-check_flattening.ensures,
      λ t w. judged_chain h _ (g.met.H.Host.lawful host) (nodes_in c.args.chain.now c.args.list.now) t w (g.P.Policy.accepted c.args.policy.now) _ (rw (sym c.front-nodes.ensures) c.in_ok-judge.ensures),
    )
