use Rattle.std.proofs.Common.{◌≡◌, ℕ, ◌≤◌, true, List, ◌++◌, map, length, take, drop, Some, None, sym, refl, ap, ap₂, ◌∙◌, subst, rules}
use Rattle.std.proofs.lemmas.List.{drop_at, take_at}
use Rattle.trees.specs.Trees.{Tree}
use Rattle.frames.specs.declared.store.Frames.{Frames}
use Rattle.frames.specs.Of.{reports_of}
use Rattle.nodes.specs.declared.node.Node.{Node}
use Rattle.nodes.specs.Begins.{Flattens}
use Rattle.nodes.specs.Flattening.{flattening}
use Rattle.nodes.specs.Notes.{cleared}
use Rattle.ledger.specs.Causes.{list_cause}
use Rattle.store.specs.Calls.{report_held}
use Rattle.store.specs.Store.{ledger_of}
use Rattle.store.proofs.Chains.{live_since, live_tree}
use Rattle.prints.specs.TreePrints.{TreePrinted, list_after}
use Rattle.prints.proofs.Few.{report_few}
use Rattle.prints.proofs.Planned.{unnoted}
use Rattle.prints.proofs.Reported.{by_ledger, list_is, tree_printed, tree_there}
use Rattle.prints.proofs.TextLengths.{tree_long}
use Rattle.prints.proofs.report.print_tree.Given.{Over}
use Rattle.prints.proofs.report.print_tree.Goals.{In_ok-count}
use Rattle.prints.proofs.report.print_tree.Goals as goal

-- the tree of the report, which was flattened to these nodes
record Listed (g : Over) (c : In_ok-count g) : Type 0 where
  tree : Tree
  is : (ledger_of c.args.store.now).reports c.args.report.now.root ≡ Some tree
  here : report_held c.args.store.now c.args.report.now ≡ true
  fits : list_cause (g.H.Host.errors c.args.host.now) tree (length c.args.list.now) ≡ None
  nodes : take c.in_ok-count.count c.flatten_report.new.list ≡ flattening (g.H.Host.errors c.args.host.now) tree
  rest : drop c.in_ok-count.count c.flatten_report.new.list ≡ drop (length (flattening (g.H.Host.errors c.args.host.now) tree)) c.args.list.now
  flattens : Flattens (g.H.Host.errors c.args.host.now) (take c.in_ok-count.count c.flatten_report.new.list) tree

listed : (g : Over) (c : In_ok-count g) → Listed g c
listed g c =
    let h = g.H.Host.errors c.args.host.now in
    let r = tree_there c.args.store.now c.args.report.now c.in_ok-root.root c.in_ok-root.ensures in
    let t = r.2.0 in
    let w = c.in_ok-count.ensures t (ap₂ (λ (k : Frames) (i : ℕ). reports_of k i) c.frames.ensures r.1 ∙ r.2.1) in
    let nodes : take c.in_ok-count.count c.flatten_report.new.list ≡ flattening h t = ap (take c.in_ok-count.count) w.2 ∙ take_at (flattening h t) (drop c.in_ok-count.count c.args.list.now) c.in_ok-count.count (sym w.1) in
    record {
      tree = t;
      is = r.2.1;
      here = r.0;
      fits = w.0;
      nodes = nodes;
      rest = ap (drop c.in_ok-count.count) w.2 ∙ drop_at (flattening h t) (drop c.in_ok-count.count c.args.list.now) c.in_ok-count.count (sym w.1) ∙ ap (λ (k : ℕ). drop k c.args.list.now) w.1;
      flattens = record { live = live_tree h _ (g.met.H.Host.lawful c.args.host.now) t (live_since h t _ w.0); lists = sym nodes };
    }

pub print_nodes-requires-clause-few : goal.print_nodes-requires-clause-few
print_nodes-requires-clause-few g c =
    let l = listed g (goal.at.print_nodes-requires-clause-few g c).In_ok-count in
    subst (λ (xs : List Node). length xs ≤ 67108864) (sym l.nodes) (report_few _ _ (g.met.H.Host.lawful c.args.host.now) c.args.store.now.frames c.args.report.now.root l.tree l.is)

pub print_nodes-requires-clause-flat : goal.print_nodes-requires-clause-flat
print_nodes-requires-clause-flat g c = let l = listed g (goal.at.print_nodes-requires-clause-flat g c).In_ok-count in ∣ (l.tree, l.flattens) ∣₁

pub print_nodes-requires-clause-clear : goal.print_nodes-requires-clause-clear
print_nodes-requires-clause-clear g c =
    let l = listed g (goal.at.print_nodes-requires-clause-clear g c).In_ok-count in
    ap (map cleared) l.nodes ∙ unnoted (g.H.Host.errors c.args.host.now) l.tree ∙ sym l.nodes

pub returns-clause-answer : goal.returns-clause-answer
returns-clause-answer g c =
    let l = listed g (goal.at.returns-clause-answer g c).In_ok-count in
    let law = g.met.H.Host.lawful c.args.host.now in
    let long = tree_long _ _ law l.tree (report_few _ _ law c.args.store.now.frames c.args.report.now.root l.tree l.is) in
    tree_printed c.args.store.now c.args.report.now (g.H.Host.errors c.args.host.now) l.tree l.is l.here (length c.args.list.now) l.fits long c.args.out.now c.print_nodes.new.out c.print_nodes.result (c.print_nodes.ensures.printed l.tree l.flattens)

pub returns-clause-list : goal.returns-clause-list
returns-clause-list g c =
    let l = listed g (goal.at.returns-clause-list g c).In_ok-count in
    list_is c.args.store.now c.args.report.now (g.H.Host.errors c.args.host.now) l.tree l.is l.here (length c.args.list.now) l.fits c.args.list.now _ refl (ap₂ (λ (xs ys : List Node). xs ++ ys) (c.print_nodes.ensures.same ∙ l.nodes) l.rest)

pub returns-clause-reached : goal.returns-clause-reached
returns-clause-reached g c =
    by_ledger _ _ (g.met.H.Host.lawful c.args.host.now) c.args.store.now c.args.report.now c.args.list.now _ c.args.out.now c.print_nodes.new.out c.print_nodes.result (returns-clause-answer g c) (returns-clause-list g c)

pub returns-in_err-root-clause-reached : goal.returns-in_err-root-clause-reached
returns-in_err-root-clause-reached g c =
    let h = g.H.Host.errors c.args.host.now in
    let answer : TreePrinted c.args.store.now h c.args.report.now (length c.args.list.now) c.args.out.now c.args.out.now c.from_residual.result = search rules in
    let list : c.args.list.now ≡ list_after c.args.store.now h c.args.report.now c.args.list.now = search rules in
    by_ledger _ _ (g.met.H.Host.lawful c.args.host.now) c.args.store.now c.args.report.now c.args.list.now c.args.list.now c.args.out.now c.args.out.now c.from_residual.result answer list

pub returns-in_err-count-clause-reached : goal.returns-in_err-count-clause-reached
returns-in_err-count-clause-reached g c =
    let h = g.H.Host.errors c.args.host.now in
    let answer : TreePrinted c.args.store.now h c.args.report.now (length c.args.list.now) c.args.out.now c.args.out.now c.from_residual-in_err-count.result = search rules in
    let list : c.flatten_report.new.list ≡ list_after c.args.store.now h c.args.report.now c.args.list.now = search rules in
    by_ledger _ _ (g.met.H.Host.lawful c.args.host.now) c.args.store.now c.args.report.now c.args.list.now c.flatten_report.new.list c.args.out.now c.args.out.now c.from_residual-in_err-count.result answer list
