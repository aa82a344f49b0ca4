use Rattle.std.proofs.Common.{length, drop, sym, ◌∙◌, ap}
use Rattle.std.proofs.lemmas.List.{take_at}
use Rattle.runs.proofs.Readings.{counted, listed}
use Rattle.runs.specs.Held.{nodes_needed}
use Rattle.runs.proofs.reading.nodes_of.Goals as goal

pub returns : goal.returns
returns g c = λ t w.
    let h = g.H.Host.errors c.args.host.now in
    let law = g.met.H.Host.lawful c.args.host.now in
    let n = c.nodes_needed-count.ensures ∙ ap nodes_needed (counted h c.args.store.now c.args.report.now _ law t w _ _ c.list_nodes.ensures) in
    let len = c.in_ok-nodes.ensures.len ∙ n in
    let e = listed h c.args.store.now c.args.report.now _ law t w _ _ _ (c.deref_mut.ensures.len ∙ len) c.list_nodes-2.ensures in
    take_at c.list_nodes-2.new.list (drop (length c.list_nodes-2.new.list) c.in_ok-nodes.nodes.items) c.in_ok-nodes.nodes.len (ap length e ∙ sym len) ∙ e
