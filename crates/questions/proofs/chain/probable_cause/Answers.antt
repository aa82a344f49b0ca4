use Rattle.std.proofs.Common.{◌≡◌, List, length, take, sym, ap, ◌∙◌, subst}
use Rattle.nodes.specs.declared.node.Node.{Node}
use Rattle.nodes.specs.Begins.{Flattens}
use Rattle.store.specs.Chains.{nodes_in}
use Rattle.readings.specs.Readings.{Cause}
use Rattle.readings.proofs.Laws.{cause_stands}
use Rattle.questions.proofs.Nodes.{front_part, unnoted}
use Rattle.questions.proofs.chain.probable_cause.Goals as goal

pub nodes_cause-requires-clause-clear : goal.nodes_cause-requires-clause-clear
nodes_cause-requires-clause-clear g c =
    let h = g.H.Host.errors c.args.host.now in
    let list = c.args.list.now in
    let same : c.front-nodes.result.now ≡ take (length c.front-nodes.result.now) list = c.front-nodes.ensures ∙ sym (front_part c.args.chain.now.nodes list) ∙ ap (λ (xs : List Node). take (length xs) list) (sym c.front-nodes.ensures) in
    let flat = c.in_ok-check_flattening.ensures in
    rw (← same) (unnoted h c.front-nodes.result.now flat.0 flat.1)

pub returns-clause-stands : goal.returns-clause-stands
returns-clause-stands g c = λ t e w q.
    let h = g.H.Host.errors c.args.host.now in
    let list = c.args.list.now in
    let part : nodes_in c.args.chain.now list ≡ take (length c.front-nodes.result.now) list = sym (front_part c.args.chain.now.nodes list) ∙ ap (λ (xs : List Node). take (length xs) list) (sym c.front-nodes.ensures) in
    let same : c.nodes_cause.result ≡ e = cc in
    subst (Cause h t) (sym (c.nodes_cause.ensures.cause t (subst (λ (xs : List Node). Flattens h xs t) part w)) ∙ same) (cause_stands h t)
