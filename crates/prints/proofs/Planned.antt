-- A tree whose lines are planned beside its nodes.
use Rattle.std.proofs.Common.{◌≡◌, ℕ, ◌<◌, ◌≤◌, false, List, map, length, Ok, Err, Result, sym, refl, ap, ◌∙◌, subst, arith}
use Rattle.std.proofs.lemmas.List.{length-map, get_or-map}
use Rattle.std.proofs.lemmas.Simd.{map-map}
use Rattle.vocabulary.specs.declared.fault.HostFault.{HostFault}
use Rattle.model.specs.Host.{Errors}
use Rattle.trees.specs.Trees.{Tree}
use Rattle.nodes.specs.declared.node.Node.{Node}
use Rattle.nodes.specs.Breadth.{breadth_first}
use Rattle.nodes.specs.Check.{blank, node_at}
use Rattle.nodes.specs.Flattening.{flattening, listed}
use Rattle.nodes.specs.Nodes.{Content, nodes_of}
use Rattle.nodes.specs.Notes.{cleared}
use Rattle.nodes.specs.Rows.{Rows, none, node, count}
use Rattle.nodes.proofs.Rebuild.{flattening-length}
use Rattle.readings.specs.Readings.{marker}
use Rattle.line_plans.specs.Plans.{Planning, Plans, unlined}
use Rattle.line_plans.proofs.Lines.{length-report_lines}
use Rattle.shown_links.specs.Linked.{marked}
use Rattle.shown_links.proofs.Alike.{alike_in}
use Rattle.print_forms.specs.Layout.{report_lines}
use Rattle.print_forms.specs.Prints.{heads_text, lines_text, tree_print}
use Rattle.print_forms.specs.Shown.{host_text, shown}
use Rattle.buffers.specs.Printed.{ErrorPut, Printed}
use Rattle.prints.specs.Puts.{AllLive, TextPut}
use Rattle.prints.specs.TreePrints.{TreePlanned}
use Rattle.prints.proofs.Counts.{shown_count}
use Rattle.prints.proofs.Roots.{root_error, some}

-- a flattening has no notes
pub unnoted : (h : Errors) (t : Tree) → map cleared (flattening h t) ≡ flattening h t
unfolding flattening
unnoted h t = map-map cleared listed (breadth_first (nodes_of h t))

-- neither marks nor lines alter what nodes are
pub cleared_marks : (h : Errors) (xs : List Node) → map cleared (map (marked h) xs) ≡ map cleared xs
cleared_marks h xs = map-map cleared (marked h) xs

pub cleared_lines : (before now : List Node) (k : ℕ) → Planning before now k → map cleared now ≡ map cleared before
cleared_lines before now k p = alike_in unlined now before p.nodes cleared

module _ (h : Errors) (t : Tree) where
  -- the list has room for the lines
  pub enough : (xs : List Node) → length xs ≡ length (flattening h t) → count (shown h t) ≤ length xs
  enough xs is = let a = shown_count (marker h) (nodes_of h t) in let b = flattening-length h t in omega arith

  pub tree_planned : (xs ys : List Node) (n : ℕ) → flattening h t ≡ xs → map cleared ys ≡ map cleared xs → (n ≡ count (shown h t)) × Plans ys 0 (report_lines false (shown h t)) → TreePlanned h t ys n
  tree_planned xs ys n is same p = record {
    same = same ∙ ap (map cleared) (sym is) ∙ unnoted h t;
    planned = record { count = p.0 ∙ sym (length-report_lines false (shown h t)); lines = p.1 };
  }

  -- what is printed, where there are heads and where there are none
  heads_none : (o : List ℕ) (r : Rows Content) → length (report_lines false r) ≡ 0 → heads_text h o r ≡ o
  heads_none o none e = refl
  heads_none o (node v c r) e = absurd (omega arith)

  heads_some : (o : List ℕ) (r : Rows Content) → (length (report_lines false r) ≡ 0 → ⊥) → lines_text h (report_lines false r) ≡ heads_text h o r
  heads_some o none e = absurd (e refl)
  heads_some o (node v c r) e = refl

  print_none : length (report_lines false (shown h t)) ≡ 0 → tree_print h t ≡ host_text h t.error
  unfolding tree_print
  print_none e = heads_none (host_text h t.error) (shown h t) e

  print_some : (length (report_lines false (shown h t)) ≡ 0 → ⊥) → lines_text h (report_lines false (shown h t)) ≡ tree_print h t
  unfolding tree_print
  print_some e = heads_some (host_text h t.error) (shown h t) e

  module _ (xs : List Node) (n : ℕ) (p : TreePlanned h t xs n) where
    long : length xs ≡ length (flattening h t)
    long = sym (length-map xs cleared) ∙ ap (λ (ys : List Node). length ys) p.same

    pub begun : 0 < length xs
    begun = let l = long in let s = some h t (flattening h t) refl in omega arith

    -- the root stands first
    root_is : (node_at xs 0).error ≡ t.error
    root_is = ap (λ (x : Node). x.error) (sym (get_or-map cleared xs 0 blank blank begun)) ∙ ap (λ (ys : List Node). (node_at ys 0).error) p.same ∙ root_error h t (flattening h t) refl

    pub root_put : n ≡ 0 → (old new : List ℕ) (r : Result ℕ HostFault) → ErrorPut h (node_at xs 0).error (host_text h (node_at xs 0).error) 0 old new r → TextPut (AllLive h xs) (tree_print h t) 0 old new r
    root_put zero old new (Ok to) q =
        let c = p.planned.count in
        subst (Printed 0 to old new) (ap (host_text h) root_is ∙ sym (print_none (omega arith))) q.1
    root_put zero old new (Err f) q = λ live. q.0 (live 0 begun)

    pub lines_put : (n ≡ 0 → ⊥) → (old new : List ℕ) (r : Result ℕ HostFault) → TextPut (AllLive h xs) (lines_text h (report_lines false (shown h t))) 0 old new r → TextPut (AllLive h xs) (tree_print h t) 0 old new r
    lines_put lines old new r q = let c = p.planned.count in subst (λ (text : List ℕ). TextPut (AllLive h xs) text 0 old new r) (print_some (λ e. lines (omega arith))) q
