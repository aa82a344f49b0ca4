-- The first head that a print shows.
use Rattle.std.proofs.Common.{◌≡◌, ℕ, ◌-◌, Bool, true, false, cond, List, map, length, get_or, drop, None, Option, sym, refl, ap, ◌∙◌, subst, arith}
use Rattle.std.proofs.lemmas.List.{drop_more}
use Rattle.std.specs.Option.{option_or}
use Rattle.model.specs.Host.{Errors}
use Rattle.trees.specs.Trees.{Tree}
use Rattle.nodes.specs.declared.node.Node.{Node}
use Rattle.nodes.specs.Breadth.{Entry, children_at, rebuild}
use Rattle.nodes.specs.Check.{blank, node_at}
use Rattle.nodes.specs.Flattening.{flattening, unlisted}
use Rattle.nodes.specs.Nodes.{Content, Nodes, frame, natives, expand, nodes_of, sources_of}
use Rattle.nodes.specs.Rows.{Rows, none, node, ◌beside◌}
use Rattle.nodes.proofs.Rebuild.{undo_row}
use Rattle.readings.specs.Readings.{marker, marker_in}
use Rattle.print_forms.specs.Shown.{displayed, shown}
use Rattle.shown_links.specs.Linked.{Linked, content_of, marked, plan_at}
use Rattle.shown_links.specs.Linking.{first_at, first_shown, follower}
use Rattle.shown_links.proofs.Kept.{same_length, same_node, same_marker}
use Rattle.shown_links.proofs.Marked.{behind, items, marks, some}
use Rattle.shown_links.proofs.Beside.{beside_none}
use Rattle.shown_links.proofs.Joined.{Joined, or_none, rows}

module _ (h : Errors) (t : Tree) (before : List Node) (q : before ≡ map (marked h) (flattening h t)) (now : List Node) (j : Joined before now) where
  abbrev beneath_root : Nodes
  beneath_root = natives t.place (sources_of h t.error) beside expand h t.children

  abbrev root : Entry Content
  root = record { parent = None; value = frame t.error t.place; children = beneath_root }

  abbrev rebuilt : Entry Content
  rebuilt = record { parent = (node_at before 0).parent; value = content_of (node_at before 0); children = children_at 0 (rebuild 1 (map unlisted (drop 1 before))) }

  root_is : rebuilt ≡ root
  root_is =
      ap (λ (ws : List (Entry Content)). get_or ws 0 root)
      (ap (λ (ys : List Node). rebuild 0 (map unlisted ys)) (sym (drop_more before 0 blank (some h t before q))) ∙ ap (rebuild 0) (items h t before q) ∙ undo_row (nodes_of h t))

  no_next : (plan_at now 0).next ≡ None
  no_next = j.root (ap (λ (w : Entry Content). w.parent) root_is)

  no_follower : follower (plan_at now 0) ≡ None
  no_follower = go (plan_at now 0).marker (plan_at now 0).next no_next
    where
      go : (b : Bool) (o : Option ℕ) → o ≡ None → cond b o None ≡ None
      go true o e = e
      go false o e = refl

  beneath_linked : Linked now (plan_at now 0).first (displayed (marker h) beneath_root)
  beneath_linked =
      let l = rows h before now (behind h t before q) j (marks h t before q) (length before - 1) 1 (let k = some h t before q in omega arith) (omega arith) 0 (omega arith) none no_follower in
      let e : option_or (first_at before 1 0) (follower (plan_at now 0)) ≡ (plan_at now 0).first =
      ap (option_or (first_at before 1 0)) no_follower ∙ or_none (first_at before 1 0) ∙ sym (j.first 0 (some h t before q)) in
      subst (λ (w : Entry Content). Linked now (plan_at now 0).first (displayed (marker h) w.children)) root_is
      (subst (λ (r : Rows Content). Linked now (plan_at now 0).first r) (beside_none (displayed (marker h) rebuilt.children))
      (subst (λ (o : Option ℕ). Linked now o (displayed (marker h) rebuilt.children beside none)) e l))

  by_root : (m : Bool) → Linked now (first_shown m (plan_at now 0).first 0 None)
      (cond m (displayed (marker h) beneath_root beside none) (node root.value (displayed (marker h) beneath_root) none))
  by_root true =
      subst (λ (o : Option ℕ). Linked now o (displayed (marker h) beneath_root beside none)) (sym (or_none (plan_at now 0).first))
      (subst (λ (r : Rows Content). Linked now (plan_at now 0).first r) (sym (beside_none (displayed (marker h) beneath_root))) beneath_linked)
  by_root false =
      let n = same_length before now j.same in
      let k = some h t before q in
      (0, refl, omega arith, ap content_of (same_node before now j.same 0) ∙ ap (λ (w : Entry Content). w.value) root_is, beneath_linked, no_next)

  pub shown_linked : (o : Option ℕ) → o ≡ first_shown (plan_at now 0).marker (plan_at now 0).first 0 None → Linked now o (shown h t)
  shown_linked o e =
      let mark : (plan_at now 0).marker ≡ marker_in h t.error =
      same_marker before now j.same 0 ∙ marks h t before q 0 (some h t before q) ∙ ap (λ (w : Entry Content). marker_in h w.value.error) root_is in
      subst (λ (r : Option ℕ). Linked now r (shown h t)) (sym (e ∙ ap (λ (b : Bool). first_shown b (plan_at now 0).first 0 None) mark)) (by_root (marker_in h t.error))
