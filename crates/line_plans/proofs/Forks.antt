-- The causes at a fork, each with what stands beneath it.
use Rattle.std.proofs.Common.{◌≡◌, ℕ, zero, suc, ◌+◌, ◌<◌, ◌≤◌, Bool, true, false, nat_lt, lt-ltb, List, ◌∷◌, ◌++◌, length, is_some, Some, None, Option, sym, refl, ap, ◌∙◌, subst, append_assoc, append-nil, arith}
use Rattle.std.proofs.lemmas.List.{length-append}
use mathlib.Core.Logic.{∥∥₁_elim, ∥∥₁_map}
use native.Mathlib.Bridge.{le_prop}
use Rattle.nodes.specs.declared.node.Node.{Node}
use Rattle.nodes.specs.declared.node.Plan.{Plan}
use Rattle.nodes.specs.declared.node.Position.TheVariants.{Nested}
use Rattle.nodes.specs.Check.{node_at}
use Rattle.nodes.specs.Nodes.{Content}
use Rattle.nodes.specs.Rows.{Rows, none, node, count}
use Rattle.print_forms.specs.Layout.{Cause, Path, Step, cause, cause_lines, causes_of, columns, is_branch}
use Rattle.print_forms.specs.Shown.{width}
use Rattle.shown_links.specs.Linked.{Linked, content_of, plan_at}
use Rattle.line_plans.specs.Plans.{Above, CauseStands, PlannedAs, Planning, Plans, line_at}
use Rattle.line_plans.specs.Causes.{Beneath, Reached}
use Rattle.line_plans.proofs.Kept.{above_later, line_stands, planning_more, same_length, still_above, still_linked, still_planned, still_plans}
use Rattle.line_plans.proofs.Lines.{cause_lines-append, length-cause_lines, length-causes_of, plans-append}

-- a node to which a link goes
pub record First (xs : List Node) (i : ℕ) (r : Rows Content) : Type 0 where
  pub value : Content
  pub causes : Rows Content
  pub others : Rows Content
  pub shape : r ≡ node value causes others
  pub within : i < length xs
  pub shows : content_of (node_at xs i) ≡ value
  pub linked : Linked xs (plan_at xs i).first causes
  pub beside : Linked xs (plan_at xs i).next others

pub first_of : (xs : List Node) (o : Option ℕ) (i : ℕ) (r : Rows Content) → Linked xs o r → o ≡ Some i → First xs i r
first_of xs o i none w q = let e : Some i ≡ None = sym q ∙ w in absurd cc
first_of xs o i (node v c r) w q =
    let e : Some w.0 ≡ Some i = sym w.1 ∙ q in
    let same : w.0 ≡ i = cc in
    subst (λ (k : ℕ). First xs k (node v c r)) same (record { value = v; causes = c; others = r; shape = refl; within = w.2; shows = w.3; linked = w.4; beside = w.5 })

pub ends_at : (xs : List Node) (o : Option ℕ) (r : Rows Content) → Linked xs o r → o ≡ None → r ≡ none
ends_at xs o none w q = refl
ends_at xs o (node v c r) w q = let e : Some w.0 ≡ None = sym w.1 ∙ q in absurd cc

-- whether a node follows
pub some_first : (xs : List Node) (o : Option ℕ) (r : Rows Content) → Linked xs o r → is_some o ≡ nat_lt 0 (width r)
some_first xs o none w = rw w refl
some_first xs o (node v c r) w = rw w.1 (sym (lt-ltb 0 (width r + 1) (omega arith)))

-- a place at a fork, which is no only one
fork_place : (n m : ℕ) → (m ≡ 0 → 0 < n) → 0 < n + m
fork_place n zero f = let lt = f refl in omega arith
fork_place n (suc m) f = omega arith

pub read_beneath : (xs : List Node) (k : ℕ) (plan read : Plan) (branch : Option ℕ) (r : Rows Content) {p : Path} → plan ≡ read → Beneath xs k read.first branch r p → Beneath xs k plan.first branch r p
read_beneath xs k plan read branch r e w = rw e w

-- a list in which the causes of a row are planned up to one of those at a fork, as it was before
pub record AtFork (old xs : List Node) (start line : ℕ) (first o above branch : Option ℕ) (n : ℕ) : Type 0 where
  pub planning : Planning old xs start
  pub reached : (r : Rows Content) (p : Path) → Beneath old start first branch r p → Reached xs start line o above n r p

-- one of them, with its line put down
module _ (xs ys : List Node) (start line n i : ℕ) (o above : Option ℕ) (r : Rows Content) (p : Path) (v : Reached xs start line o above n r p) (q : o ≡ Some i) where
  at : First xs i v.rest
  at = first_of xs o i v.rest v.linked q

  step : Step
  step = record { index = n; after = width at.others }

  branch : is_branch step ≡ true
  unfolding step
  branch =
      let e : width v.rest ≡ width at.others + 1 = ap (λ (t : Rows Content). width t) at.shape in
      let f = v.fork in
      let lt : 0 < n + width at.others = fork_place n (width at.others) (λ z. f (omega arith)) in
      lt-ltb 0 (n + width at.others) lt

  line_room : line + (count at.causes + 1 + count at.others) ≡ start + count r
  line_room = ap (λ (t : Rows Content). line + count t) (sym at.shape) ∙ v.room

  x : Cause Content
  x = record { path = step ∷ v.way; causes = width at.causes; value = at.value }

  module _ (later : Planning xs ys line) (follows : Bool) (goes : follows ≡ is_some (plan_at xs i).next) (is : line_at ys line ≡ Some (record { node = i; position = Nested (Some n) above follows false })) where
    column : follows ≡ nat_lt 0 step.after
    unfolding step
    column = goes ∙ some_first xs _ at.others at.beside

    above_now : Above ys line above (columns v.way)
    above_now = still_above xs ys line later line above (columns v.way) (omega arith) v.level

    stands : CauseStands ys line (Nested (Some n) above follows false) x
    unfolding x step
    stands = let b : nat_lt 0 (n + width at.others) ≡ true = branch in (columns v.way, rw (b, column) refl, above_now, rw b refl, rw b refl)

    beneath : start + count r ≤ length xs → Beneath ys (line + 1) (plan_at xs i).first (Some line) at.causes (step ∷ v.way)
    unfolding step
    beneath room = record {
      linked = still_linked xs ys line later at.causes _ at.linked;
      top = let b : nat_lt 0 (n + width at.others) ≡ true = branch in rw b refl;
      above = let b : nat_lt 0 (n + width at.others) ≡ true = branch in rw b (line, above, _, refl, omega arith, is, (column, refl), above_now);
      room = let l = same_length xs ys line later in let m = line_room in omega arith;
    }

    -- with all that stands beneath it planned
    module _ (zs : List Node) (rest : Planning ys zs (line + 1)) (result : ℕ) (size : result ≡ line + 1 + count at.causes) (plans : Plans zs (line + 1) (cause_lines (causes_of (step ∷ v.way) 0 at.causes))) where
      all : Planning xs zs line
      all = planning_more xs ys line later zs (line + 1) (omega arith) rest

      these : List (Cause Content)
      these = x ∷ causes_of (step ∷ v.way) 0 at.causes

      done_more : Reached zs start result (plan_at xs i).next above (n + 1) r p
      unfolding x these step
      done_more =
          let lines = v.lines in
          let places = v.places in
          let m = line_room in
          let d = length-append v.done these in
          let k = length-causes_of (step ∷ v.way) 0 at.causes in
          let e : line ≡ start + length (cause_lines v.done) = let j = length-cause_lines v.done in omega arith in
          let planned : PlannedAs zs line (cause x) = still_planned ys zs (line + 1) rest line (cause x) (omega arith) (line_stands xs ys line i later _ (cause x) is at.within at.shows stands) in
          let both : Plans zs line (cause_lines these) = (planned, plans) in
          record {
            way = v.way;
            rest = at.others;
            done = v.done ++ these;
            linked = still_linked xs zs line all at.others _ at.beside;
            fork = λ one. omega arith;
            level = above_later zs line result above (columns v.way) (omega arith) (still_above xs zs line all line above (columns v.way) (omega arith) v.level);
            causes = v.causes ∙ ap (λ (t : Rows Content). v.done ++ causes_of v.way n t) at.shape ∙ sym (append_assoc v.done these (causes_of v.way (n + 1) at.others));
            lines = omega arith;
            places = omega arith;
            room = omega arith;
            plans = rw (cause_lines-append v.done these) (plans-append zs start (cause_lines v.done) (cause_lines these) (still_plans xs zs line all start (cause_lines v.done) (omega arith) v.plans)
                (subst (λ (j : ℕ). Plans zs j (cause_lines these)) e both));
          }

module _ (old xs : List Node) (start line n : ℕ) (first o above branch : Option ℕ) (v : AtFork old xs start line first o above branch n) where
  module _ (some : ∥ ((r : Rows Content) × ((p : Path) × Beneath old start first branch r p)) ∥₁) where
    pub at_fork_node : (i : ℕ) → o ≡ Some i → i < length xs
    at_fork_node i q = ∥∥₁_elim some le_prop (λ w. let s = v.reached w.0 w.1.0 w.1.1 in (first_of xs o i s.rest s.linked q).within)

    pub at_fork_line : (i : ℕ) → o ≡ Some i → line < length xs
    at_fork_line i q = ∥∥₁_elim some le_prop (λ w.
        let b = w.1.1.room in
        let l = same_length old xs start v.planning in
        let m = line_room xs xs start line n i o above w.0 w.1.0 (v.reached w.0 w.1.0 w.1.1) q in
        omega arith)

    pub at_fork_place : (i : ℕ) → o ≡ Some i → n ≤ line
    at_fork_place i q = ∥∥₁_elim some le_prop (λ w. (v.reached w.0 w.1.0 w.1.1).places)

    pub at_fork_late : start ≤ line
    at_fork_late = ∥∥₁_elim some le_prop (λ w. let e = (v.reached w.0 w.1.0 w.1.1).lines in omega arith)

  module _ (ys : List Node) (i : ℕ) (q : o ≡ Some i) (plan : Plan) (read : plan ≡ plan_at xs i) (later : Planning xs ys line)
      (is : line_at ys line ≡ Some (record { node = i; position = Nested (Some n) above (is_some plan.next) false })) where
    goes : is_some plan.next ≡ is_some (plan_at xs i).next
    goes = rw read

    -- there is room for what stands beneath it
    below : (r : Rows Content) (p : Path) → Beneath old start first branch r p → (c : Rows Content) × ((way : Path) × Beneath ys (line + 1) plan.first (Some line) c way)
    below r p b =
        let s = v.reached r p b in
        let m = b.room in
        let l = same_length old xs start v.planning in
        let w = beneath xs ys start line n i o above r p s q later (is_some plan.next) goes is (omega arith) in
        (_, (_, read_beneath _ _ _ _ _ _ read w))

    pub at_fork_beneath : ∥ ((r : Rows Content) × ((p : Path) × Beneath old start first branch r p)) ∥₁ → ∥ ((r : Rows Content) × ((p : Path) × Beneath ys (line + 1) plan.first (Some line) r p)) ∥₁
    at_fork_beneath some = ∥∥₁_map some (λ w. below w.0 w.1.0 w.1.1)

    module _ (zs : List Node) (rest : Planning ys zs (line + 1)) (result : ℕ)
        (ends : (r : Rows Content) (p : Path) → Beneath ys (line + 1) plan.first (Some line) r p → (result ≡ line + 1 + count r) × Plans zs (line + 1) (cause_lines (causes_of p 0 r))) where
      pub at_fork_more : start ≤ line → AtFork old zs start result first plan.next above branch (n + 1)
      at_fork_more late = record {
        planning = planning_more old xs start v.planning zs line late (planning_more xs ys line later zs (line + 1) (omega arith) rest);
        reached = λ r p b.
            let s = v.reached r p b in
            let m = b.room in
            let l = same_length old xs start v.planning in
            let w = beneath xs ys start line n i o above r p s q later (is_some plan.next) goes is (omega arith) in
            let e = ends _ _ (read_beneath _ _ _ _ _ _ read w) in
            rw read (done_more xs ys start line n i o above r p s q later (is_some plan.next) goes is zs rest result e.0 e.1);
      }

      pub at_fork_grows : ∥ ((r : Rows Content) × ((p : Path) × Beneath old start first branch r p)) ∥₁ → line < result
      at_fork_grows some = ∥∥₁_elim some le_prop (λ w. let b = below w.0 w.1.0 w.1.1 in let e = (ends b.0 b.1.0 b.1.1).0 in omega arith)

  -- after the last of them
  pub at_fork_ends : o ≡ None → (r : Rows Content) (p : Path) → Beneath old start first branch r p → (line ≡ start + count r) × Plans xs start (cause_lines (causes_of p 0 r))
  at_fork_ends q r p b =
      let s = v.reached r p b in
      let none_left = ends_at xs o s.rest s.linked q in
      let m = s.room in
      let z : count s.rest ≡ 0 = ap (λ (t : Rows Content). count t) none_left in
      let e : causes_of p 0 r ≡ s.done = s.causes ∙ ap (λ (t : Rows Content). s.done ++ causes_of s.way n t) none_left ∙ append-nil s.done in
      (omega arith, rw e s.plans)
