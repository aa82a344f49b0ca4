-- The heads of a printed tree, each with what stands beneath it.
use Rattle.std.proofs.Common.{◌≡◌, ℕ, ◌+◌, ◌<◌, ◌≤◌, Bool, true, false, not, ◌==◌, nat_lt, lt-ltb, ne_eqb, List, [], ◌∷◌, ◌++◌, length, is_some, Some, None, Option, sym, refl, ap, ◌∙◌, subst, append_assoc, append-nil, arith}
use Rattle.std.proofs.lemmas.List.{length-append}
use mathlib.Core.Logic.{∥∥₁_elim, ∥∥₁_map}
use native.Mathlib.Bridge.{le_prop}
use Rattle.nodes.specs.declared.node.Node.{Node}
use Rattle.nodes.specs.declared.node.Plan.{Plan}
use Rattle.nodes.specs.declared.node.Position.TheVariants.{Head}
use Rattle.nodes.specs.Nodes.{Content}
use Rattle.nodes.specs.Rows.{Rows, none, node, count}
use Rattle.print_forms.specs.Layout.{Line, Path, cause_lines, causes_of, head, report_lines}
use Rattle.print_forms.specs.Shown.{width}
use Rattle.shown_links.specs.Linked.{Linked, plan_at}
use Rattle.line_plans.specs.Plans.{PlannedAs, Planning, Plans, line_at}
use Rattle.line_plans.specs.Causes.{Beneath}
use Rattle.line_plans.proofs.Forks.{First, ends_at, first_of, read_beneath}
use Rattle.line_plans.proofs.Kept.{line_stands, planning_more, same_length, still_linked, still_planned, still_plans}
use Rattle.line_plans.proofs.Lines.{length-cause_lines, length-causes_of, plans-append}

-- the first heads of a row, and all beneath them, are planned, in the lines before `line`; the others are linked
pub record ReachedHeads (xs : List Node) (line : ℕ) (o : Option ℕ) (later : Bool) (r : Rows Content) : Type 0 where
  pub rest : Rows Content
  pub done : List (Line Content)
  pub linked : Linked xs o rest
  pub lines : report_lines false r ≡ done ++ report_lines later rest
  pub size : line ≡ length done
  pub room : line + count rest ≡ count r
  pub plans : Plans xs 0 done

-- whether causes stand beneath a node
has_causes : (xs : List Node) (o : Option ℕ) (r : Rows Content) → Linked xs o r → is_some o ≡ not (width r == 0)
has_causes xs o none w = rw w refl
has_causes xs o (node v c r) w = rw (w.1, ne_eqb (width r + 1) 0 (λ e. omega arith)) refl

-- one head, with its line put down
module _ (xs ys : List Node) (line i : ℕ) (o : Option ℕ) (later : Bool) (r : Rows Content) (v : ReachedHeads xs line o later r) (q : o ≡ Some i) where
  at : First xs i v.rest
  at = first_of xs o i v.rest v.linked q

  line_room : line + (count at.causes + 1 + count at.others) ≡ count r
  line_room = ap (λ (t : Rows Content). line + count t) (sym at.shape) ∙ v.room

  module _ (put : Planning xs ys line) (some : Bool) (goes : some ≡ is_some (plan_at xs i).first) (is : line_at ys line ≡ Some (record { node = i; position = Head later some })) where
    beneath : count r ≤ length xs → Beneath ys (line + 1) (plan_at xs i).first None at.causes []
    beneath room = record {
      linked = still_linked xs ys line put at.causes _ at.linked;
      top = refl;
      above = refl;
      room = let l = same_length xs ys line put in let m = line_room in omega arith;
    }

    -- with all that stands beneath it planned
    module _ (zs : List Node) (rest : Planning ys zs (line + 1)) (result : ℕ) (size : result ≡ line + 1 + count at.causes) (plans : Plans zs (line + 1) (cause_lines (causes_of [] 0 at.causes))) where
      all : Planning xs zs line
      all = planning_more xs ys line put zs (line + 1) (omega arith) rest

      these : List (Line Content)
      these = head later (width at.causes) at.value ∷ cause_lines (causes_of [] 0 at.causes)

      head_more : ReachedHeads zs result (plan_at xs i).next (nat_lt 0 result) r
      unfolding these
      head_more =
          let m = line_room in
          let d = length-append v.done these in
          let k = length-causes_of [] 0 at.causes in
          let j = length-cause_lines (causes_of [] 0 at.causes) in
          let s = v.size in
          let before : nat_lt 0 result ≡ true = lt-ltb 0 result (omega arith) in
          let planned : PlannedAs zs line (head later (width at.causes) at.value) =
          still_planned ys zs (line + 1) rest line _ (omega arith) (line_stands xs ys line i put _ (head later (width at.causes) at.value) is at.within at.shows (refl, goes ∙ has_causes xs _ at.causes at.linked)) in
          let both : Plans zs line these = (planned, plans) in
          record {
            rest = at.others;
            done = v.done ++ these;
            linked = still_linked xs zs line all at.others _ at.beside;
            lines = rw before (v.lines ∙ ap (λ (t : Rows Content). v.done ++ report_lines later t) at.shape ∙ sym (append_assoc v.done these (report_lines true at.others)));
            size = omega arith;
            room = omega arith;
            plans = plans-append zs 0 v.done these (still_plans xs zs line all 0 v.done (omega arith) v.plans) (let e : line ≡ 0 + length v.done = omega arith in subst (λ (k : ℕ). Plans zs k these) e both);
          }

-- a list in which the heads of a row are planned up to one of them, as it was before
pub record AtHead (old xs : List Node) (line : ℕ) (heads o : Option ℕ) : Type 0 where
  pub planning : Planning old xs 0
  pub reached : (r : Rows Content) → Linked old heads r → count r ≤ length old → ReachedHeads xs line o (nat_lt 0 line) r

module _ (old xs : List Node) (line : ℕ) (heads o : Option ℕ) (v : AtHead old xs line heads o) where
  module _ (some : ∥ ((r : Rows Content) × (Linked old heads r × (count r ≤ length old))) ∥₁) where
    pub at_head_node : (i : ℕ) → o ≡ Some i → i < length xs
    at_head_node i q = ∥∥₁_elim some le_prop (λ w. let s = v.reached w.0 w.1.0 w.1.1 in (first_of xs o i s.rest s.linked q).within)

    pub at_head_line : (i : ℕ) → o ≡ Some i → line < length xs
    at_head_line i q = ∥∥₁_elim some le_prop (λ w.
        let few = w.1.1 in
        let l = same_length old xs 0 v.planning in
        let m = line_room xs xs line i o (nat_lt 0 line) w.0 (v.reached w.0 w.1.0 w.1.1) q in
        omega arith)

  module _ (ys : List Node) (i : ℕ) (q : o ≡ Some i) (plan : Plan) (read : plan ≡ plan_at xs i) (put : Planning xs ys line)
      (is : line_at ys line ≡ Some (record { node = i; position = Head (nat_lt 0 line) (is_some plan.first) })) where
    goes : is_some plan.first ≡ is_some (plan_at xs i).first
    goes = rw read

    -- there is room for what stands beneath it
    below : (r : Rows Content) → Linked old heads r → count r ≤ length old → (c : Rows Content) × ((way : Path) × Beneath ys (line + 1) plan.first None c way)
    below r w le =
        let l = same_length old xs 0 v.planning in
        (_, (_, read_beneath _ _ _ _ _ _ read (beneath xs ys line i o (nat_lt 0 line) r (v.reached r w le) q put (is_some plan.first) goes is (omega arith))))

    pub at_head_beneath : ∥ ((r : Rows Content) × (Linked old heads r × (count r ≤ length old))) ∥₁ → ∥ ((r : Rows Content) × ((p : Path) × Beneath ys (line + 1) plan.first None r p)) ∥₁
    at_head_beneath some = ∥∥₁_map some (λ w. below w.0 w.1.0 w.1.1)

    module _ (zs : List Node) (rest : Planning ys zs (line + 1)) (result : ℕ)
        (ends : (r : Rows Content) (p : Path) → Beneath ys (line + 1) plan.first None r p → (result ≡ line + 1 + count r) × Plans zs (line + 1) (cause_lines (causes_of p 0 r))) where
      pub at_head_more : AtHead old zs result heads plan.next
      at_head_more = record {
        planning = planning_more old xs 0 v.planning zs line (omega arith) (planning_more xs ys line put zs (line + 1) (omega arith) rest);
        reached = λ r w le.
            let s = v.reached r w le in
            let l = same_length old xs 0 v.planning in
            let b = beneath xs ys line i o (nat_lt 0 line) r s q put (is_some plan.first) goes is (omega arith) in
            let e = ends _ _ (read_beneath _ _ _ _ _ _ read b) in
            rw read (head_more xs ys line i o (nat_lt 0 line) r s q put (is_some plan.first) goes is zs rest result e.0 e.1);
      }

      pub at_head_grows : ∥ ((r : Rows Content) × (Linked old heads r × (count r ≤ length old))) ∥₁ → line < result
      at_head_grows some = ∥∥₁_elim some le_prop (λ w. let b = below w.0 w.1.0 w.1.1 in let e = (ends b.0 b.1.0 b.1.1).0 in omega arith)

  -- after the last of them
  pub at_head_ends : o ≡ None → (r : Rows Content) → Linked old heads r → count r ≤ length old → (line ≡ count r) × Plans xs 0 (report_lines false r)
  at_head_ends q r w le =
      let s = v.reached r w le in
      let none_left = ends_at xs o s.rest s.linked q in
      let m = s.room in
      let z : count s.rest ≡ 0 = ap (λ (t : Rows Content). count t) none_left in
      let e : report_lines false r ≡ s.done = s.lines ∙ ap (λ (t : Rows Content). s.done ++ report_lines (nat_lt 0 line) t) none_left ∙ append-nil s.done in
      (omega arith, rw e s.plans)
