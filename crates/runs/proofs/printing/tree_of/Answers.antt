use Rattle.std.proofs.Common.{length, drop, ◌∙◌}
use Rattle.std.proofs.lemmas.List.{take_at}
use Rattle.runs.proofs.Readings.{filled, list_kept}
use Rattle.runs.proofs.printing.tree_of.Goals.{In-Ok}
use Rattle.runs.proofs.printing.tree_of.Goals as goal

pub returns-in_err-print-clause-nodes : goal.returns-in_err-print-clause-nodes
returns-in_err-print-clause-nodes g c = λ t w e. c.print_tree.ensures.list ∙ list_kept (g.H.Host.errors c.args.host.now) c.args.store.now c.args.report.now _ (g.met.H.Host.lawful c.args.host.now) t w _ e

pub returns-in-Err-clause-nodes : goal.returns-in-Err-clause-nodes
returns-in-Err-clause-nodes g c = λ t w e.
    let kept = list_kept (g.H.Host.errors c.args.host.now) c.args.store.now c.args.report.now _ (g.met.H.Host.lawful c.args.host.now) t w in
    let once = c.print_tree.ensures.list ∙ kept _ e in
    c.print_tree-2.ensures.list ∙ kept _ (once ∙ e) ∙ once

pub returns-in-Ok-clause-nodes : goal.returns-in-Ok-clause-nodes
returns-in-Ok-clause-nodes g c = λ t w e.
    let kept = list_kept (g.H.Host.errors c.args.host.now) c.args.store.now c.args.report.now _ (g.met.H.Host.lawful c.args.host.now) t w in
    let once = c.print_tree.ensures.list ∙ kept _ e in
    c.print_tree-2.ensures.list ∙ kept _ (once ∙ e) ∙ once

pub returns-in-Ok-clause-print : goal.returns-in-Ok-clause-print
returns-in-Ok-clause-print g c = λ t w e.
    let h = g.H.Host.errors c.args.host.now in
    let law = g.met.H.Host.lawful c.args.host.now in
    let len = c.in_ok-print.ensures.len ∙ c.bytes_needed-needed.ensures in
    let is = filled h c.args.store.now c.args.report.now _ law t w c.print_tree.result c.args.nodes.now _ _ _ _ _ e c.print_tree.ensures.answer (c.deref_mut.ensures.len ∙ len) c.in-Ok.ensures.answer in
    let long = c.print_tree-2.auto.out ∙ c.deref_mut.ensures.len in
    take_at c.print_tree-2.new.out (drop (length c.print_tree-2.new.out) c.in_ok-print.print.items) c.in_ok-print.print.len long ∙ is
