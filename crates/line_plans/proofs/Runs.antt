-- Runs of only causes.
use Rattle.std.proofs.Common.{◌≡◌, ℕ, zero, suc, ◌+◌, ◌<◌, ◌≤◌, Bool, true, false, not, ◌==◌, nat_lt, ne_eqb, List, [], ◌∷◌, ◌++◌, length, is_some, Some, None, Option, sym, refl, ap, ◌∙◌, subst, append_assoc, append-nil, add-one, arith}
use Rattle.std.proofs.lemmas.List.{length-append}
use mathlib.Core.Logic.{∥∥₁_elim}
use native.Mathlib.Bridge.{le_prop}
use Rattle.nodes.specs.declared.node.Node.{Node}
use Rattle.nodes.specs.declared.node.Position.{Position}
use Rattle.nodes.specs.declared.node.Position.TheVariants.{Head, Main, Nested}
use Rattle.nodes.specs.Check.{node_at}
use Rattle.nodes.specs.Nodes.{Content}
use Rattle.nodes.specs.Rows.{Rows, none, node, count}
use Rattle.print_forms.specs.Layout.{Cause, Path, Step, at_only_cause, cause, cause_lines, causes_of, columns, is_branch, number}
use Rattle.print_forms.specs.Shown.{width}
use Rattle.shown_links.specs.Linked.{Linked, content_of, plan_at}
use Rattle.line_plans.specs.Plans.{Above, CauseStands, Planning, Plans, line_at}
use Rattle.line_plans.specs.Causes.{Beneath, InRun, Reached, RunColumns, Within, only_cause}
use Rattle.line_plans.proofs.Kept.{above_later, line_stands, planning_more, planning_none, same_length, still_above, still_linked, still_plans}
use Rattle.line_plans.proofs.Lines.{cause_lines-append, length-cause_lines, plans-append}

-- the step to an only cause
pub only : Step
only = record { index = 0; after = 0 }

-- down a run
pub along : ℕ → Path → Path
along zero p = p
along (suc n) p = only ∷ along n p

module _ (p : Path) (top : at_only_cause p ≡ false) where
  number-along : (n : ℕ) → number (along (suc n) p) ≡ n
  unfolding along only
  number-along zero = rw top
  number-along (suc n) = ap (λ (m : ℕ). m + 1) (number-along n) ∙ add-one n

  columns-along : (n : ℕ) → columns (along (suc n) p) ≡ columns (along 1 p)
  unfolding along only
  columns-along zero = refl
  columns-along (suc n) = columns-along n

-- the line that stands for the level of a run, once a cause of it is planned
pub run_level : Option ℕ → ℕ → ℕ → Option ℕ
run_level None start n = None
run_level (Some j) start zero = Some j
run_level (Some j) start (suc n) = Some start

-- the columns of a run
not_false : (b : Bool) → not b ≡ false → b ≡ true
not_false true q = refl
not_false false q = sym q

columns_run : (xs : List Node) (k : ℕ) (branch : Option ℕ) (p : Path) → at_only_cause p ≡ false → Above xs k branch (columns p) → RunColumns xs k branch (columns (along 1 p))
unfolding along only
columns_run xs k None [] top e = refl
columns_run xs k (Some j) [] top e = absurd cc
columns_run xs k None (s ∷ up) top w =
    let b : is_branch s ≡ true = not_false (is_branch s) top in
    let a : Above xs k None (nat_lt 0 s.after ∷ columns up) = rw b at w in
    let e = a.3 in
    absurd cc
columns_run xs k (Some j) (s ∷ up) top w = let b : is_branch s ≡ true = not_false (is_branch s) top in (columns (s ∷ up), rw b, w)

-- a node to which a link goes as an only cause
record Only (xs : List Node) (i : ℕ) (r : Rows Content) : Type 0 where
  value : Content
  causes : Rows Content
  shape : r ≡ node value causes none
  within : i < length xs
  shows : content_of (node_at xs i) ≡ value
  linked : Linked xs (plan_at xs i).first causes

only_shape : (xs : List Node) (o : Option ℕ) (i : ℕ) (r : Rows Content) → Linked xs o r → only_cause xs o ≡ Some i → Only xs i r
only_shape xs o i none w q = let e = rw w at q in absurd cc
only_shape xs o i (node v c none) w q =
    let e : Some w.0 ≡ Some i = rw (w.1, w.5) at q in
    let same : w.0 ≡ i = cc in
    subst (λ (k : ℕ). Only xs k (node v c none)) same (record { value = v; causes = c; shape = refl; within = w.2; shows = w.3; linked = w.4 })
only_shape xs o i (node v c (node v' c' r)) w q = let e = rw (w.1, w.5.1) at q in absurd cc

not_only : (xs : List Node) (o : Option ℕ) (r : Rows Content) → Linked xs o r → only_cause xs o ≡ None → width r ≡ 1 → ⊥
not_only xs o none w q e = omega arith
not_only xs o (node v c none) w q e = let f = rw (w.1, w.5) at q in cc
not_only xs o (node v c (node v' c' r)) w q e = omega arith

pub within_prop : (xs : List Node) (o : Option ℕ) → IsProp (Within xs o)
within_prop xs None = hlevel
within_prop xs (Some i) = le_prop

linked_within : (xs : List Node) (o : Option ℕ) (r : Rows Content) → Linked xs o r → Within xs o
linked_within xs o none w = rw w tt
linked_within xs o (node v c r) w = rw w.1 w.2

width_one : (xs : List Node) (o : Option ℕ) (r : Rows Content) → Linked xs o r → (width r == 1) ≡ is_some (only_cause xs o)
width_one xs o none w = rw w
width_one xs o (node v c none) w = rw (w.1, w.5)
width_one xs o (node v c (node v' c' r)) w = rw (w.1, w.5.1) (ne_eqb (width r + 1 + 1) 1 (λ e. omega arith))

-- the causes of a run from its start on are planned, and the others are linked
pub record Running (xs : List Node) (start : ℕ) (o branch : Option ℕ) (n : ℕ) (r : Rows Content) (p : Path) : Type 0 where
  pub rest : Rows Content
  pub done : List (Cause Content)
  pub linked : Linked xs o rest
  pub causes : causes_of p 0 r ≡ done ++ causes_of (along n p) 0 rest
  pub size : length done ≡ n
  pub room : n + count rest ≡ count r
  pub level : Above xs (start + n) (run_level branch start n) (columns (along n p))
  pub plans : Plans xs start (cause_lines done)

run_level_none : (branch : Option ℕ) (start : ℕ) → run_level branch start 0 ≡ branch
unfolding run_level
run_level_none None start = refl
run_level_none (Some j) start = refl

run_level_some : (j start n : ℕ) → 0 < n → run_level (Some j) start n ≡ Some start
unfolding run_level
run_level_some j start zero lt = absurd (omega arith)
run_level_some j start (suc n) lt = refl

pub running_none : (xs : List Node) (start : ℕ) (o branch : Option ℕ) (r : Rows Content) (p : Path) → Beneath xs start o branch r p → Running xs start o branch 0 r p
unfolding along
running_none xs start o branch r p b = record {
  rest = r;
  done = [];
  linked = b.linked;
  causes = refl;
  size = refl;
  room = omega arith;
  level = rw (run_level_none branch start) (above_later xs start (start + 0) branch (columns p) (omega arith) b.above);
  plans = tt;
}

-- a line on a level of its own stands for it
level_made : (xs : List Node) (k i : ℕ) (pos : Position) (x : Cause Content) → line_at xs k ≡ Some (record { node = i; position = pos }) → CauseStands xs k pos x → (columns x.path ≡ [] → ⊥)
    → Above xs (k + 1) (Some k) (columns x.path)
level_made xs k i (Head later causes) x q w some = absurd w
level_made xs k i (Main n) x q w some = absurd (some w.0)
level_made xs k i (Nested n up follows more) x q w some = rw w.1 (k, up, _, refl, omega arith, q, (refl, refl), w.2)

level_more : (xs ys : List Node) (start j : ℕ) (n : ℕ) (p : Path) → at_only_cause p ≡ false → Planning xs ys (start + n) → Above xs (start + n) (run_level (Some j) start n) (columns (along n p))
    → (i : ℕ) (pos : Position) (x : Cause Content) → line_at ys (start + n) ≡ Some (record { node = i; position = pos }) → CauseStands ys (start + n) pos x → x.path ≡ along (suc n) p
    → (columns x.path ≡ [] → ⊥) → Above ys (start + suc n) (Some start) (columns x.path)
unfolding run_level
level_more xs ys start j zero p top v w i pos x is stands way some =
    let a = level_made ys (start + 0) i pos x is stands some in
    let e : start + 0 ≡ start = omega arith in
    above_later ys (start + 1) (start + 1) (Some start) (columns x.path) (omega arith) (rw e at a)
level_more xs ys start j (suc n) p top v w i pos x is stands way some =
    let e : columns x.path ≡ columns (along (suc n) p) = ap columns way ∙ columns-along p top (suc n) ∙ sym (columns-along p top n) in
    rw e (above_later ys (start + suc n) (start + suc (suc n)) (Some start) (columns (along (suc n) p)) (omega arith) (still_above xs ys (start + suc n) v (start + suc n) (Some start) (columns (along (suc n) p)) (omega arith) w))

run_level_more : (xs ys : List Node) (start : ℕ) (branch : Option ℕ) (n : ℕ) (p : Path) → at_only_cause p ≡ false → Planning xs ys (start + n) → Above xs (start + n) (run_level branch start n) (columns (along n p))
    → (i : ℕ) (pos : Position) (x : Cause Content) → line_at ys (start + n) ≡ Some (record { node = i; position = pos }) → RunColumns ys (start + n) branch (columns x.path) → CauseStands ys (start + n) pos x
    → x.path ≡ along (suc n) p → Above ys (start + suc n) (run_level branch start (suc n)) (columns x.path)
unfolding run_level
run_level_more xs ys start None n p top v w i pos x is cs stands way = rw cs refl
run_level_more xs ys start (Some j) n p top v w i pos x is cs stands way = level_more xs ys start j n p top v w i pos x is stands way (λ e. let f = cs.1 in cc)

-- one more cause of a run
module _ (old xs ys : List Node) (start n : ℕ) (o first branch : Option ℕ) (r : Rows Content) (p : Path) (b : Beneath old start first branch r p) (early : Planning old xs start) (v : Running xs start o branch n r p) where
  run_room : (i : ℕ) → only_cause xs o ≡ Some i → start + n < length xs
  run_room i q =
      let s = only_shape xs o i v.rest v.linked q in
      let a = v.room in
      let m = b.room in
      let l = same_length old xs start early in
      let e : count v.rest ≡ count s.causes + 1 + 0 = ap (λ (t : Rows Content). count t) s.shape in
      omega arith

  run_within : Within xs o
  run_within = linked_within xs o v.rest v.linked

  run_within_next : (i : ℕ) → only_cause xs o ≡ Some i → Within xs (plan_at xs i).first
  run_within_next i q = let s = only_shape xs o i v.rest v.linked q in linked_within xs _ s.causes s.linked

  run_end : start + n ≤ length xs
  run_end = let a = v.room in let m = b.room in let l = same_length old xs start early in omega arith

  -- the run has come to its end
  run_ends : only_cause xs o ≡ None → (above : Option ℕ) → above ≡ run_level branch start n → Reached xs start (start + n) o above 0 r p
  run_ends q above e = record {
    way = along n p;
    rest = v.rest;
    done = v.done;
    linked = v.linked;
    fork = λ one. absurd (not_only xs o v.rest v.linked q one);
    level = rw e v.level;
    causes = v.causes;
    lines = let s = v.size in omega arith;
    places = omega arith;
    room = let a = v.room in omega arith;
    plans = v.plans;
  }

  module _ (i : ℕ) (q : only_cause xs o ≡ Some i) (later : Planning xs ys (start + n)) (pos : Position) (is : line_at ys (start + n) ≡ Some (record { node = i; position = pos })) (more : Bool)
      (goes : more ≡ is_some (only_cause xs (plan_at xs i).first)) (stands : (zs : List Node) (k : ℕ) (x : Cause Content) → InRun zs k branch n more x → CauseStands zs k pos x) where
    run_more : Running ys start (plan_at xs i).first branch (suc n) r p
    unfolding along only
    run_more =
        let s = only_shape xs o i v.rest v.linked q in
        let x : Cause Content = record { path = along (suc n) p; causes = width s.causes; value = s.value } in
        let base : Above ys (start + n) branch (columns p) =
        still_above xs ys (start + n) later (start + n) branch (columns p) (omega arith)
        (above_later xs start (start + n) branch (columns p) (omega arith) (still_above old xs start early start branch (columns p) (omega arith) b.above)) in
        let level : columns x.path ≡ columns (along 1 p) = columns-along p b.top n in
        let cs : RunColumns ys (start + n) branch (columns x.path) = rw level (columns_run ys (start + n) branch p b.top base) in
        let place : CauseStands ys (start + n) pos x =
        stands ys (start + n) x (record { columns = cs; level = refl; number = number-along p b.top n; continues = width_one xs _ s.causes s.linked ∙ sym goes }) in
        let line : Plans ys (start + n) (cause x ∷ []) = (line_stands xs ys (start + n) i later pos (cause x) is s.within s.shows place, tt) in
        let size : start + n ≡ start + length (cause_lines v.done) = let a = length-cause_lines v.done in let d = v.size in omega arith in
        let e : count v.rest ≡ count s.causes + 1 + 0 = ap (λ (t : Rows Content). count t) s.shape in
        let a = v.room in
        let d = v.size in
        record {
          rest = s.causes;
          done = v.done ++ (x ∷ []);
          linked = still_linked xs ys (start + n) later s.causes _ s.linked;
          causes = v.causes ∙ ap (λ (t : Rows Content). v.done ++ causes_of (along n p) 0 t) s.shape
              ∙ simp (append_assoc, append-nil);
          size = let l = length-append v.done (x ∷ []) in omega arith;
          room = omega arith;
          level = run_level_more xs ys start branch n p b.top later v.level i pos x is cs place refl;
          plans = rw (cause_lines-append v.done (x ∷ [])) (plans-append ys start (cause_lines v.done) (cause x ∷ []) (still_plans xs ys (start + n) later start (cause_lines v.done) (omega arith) v.plans)
              (subst (λ (k : ℕ). Plans ys k (cause x ∷ [])) size line));
        }

-- a run in the list as it was before, with `n` of its causes planned
pub record AtRun (old xs : List Node) (start : ℕ) (first o branch : Option ℕ) (n : ℕ) : Type 0 where
  pub planning : Planning old xs start
  pub runs : (r : Rows Content) (p : Path) → Beneath old start first branch r p → Running xs start o branch n r p

pub at_run_none : (xs : List Node) (start : ℕ) (first branch : Option ℕ) → AtRun xs xs start first first branch 0
at_run_none xs start first branch = record { planning = planning_none xs start; runs = λ r p b. running_none xs start first branch r p b }

module _ (old xs : List Node) (start n : ℕ) (first o branch : Option ℕ) (v : AtRun old xs start first o branch n) where
  module _ (some : ∥ ((r : Rows Content) × ((p : Path) × Beneath old start first branch r p)) ∥₁) where
    pub at_run_within : Within xs o
    at_run_within = ∥∥₁_elim some (within_prop xs o) (λ w. let b = w.1.1 in run_within old xs xs start n o first branch w.0 w.1.0 b v.planning (v.runs w.0 w.1.0 b))

    pub at_run_within_next : (i : ℕ) → only_cause xs o ≡ Some i → Within xs (plan_at xs i).first
    at_run_within_next i q = ∥∥₁_elim some (within_prop xs _) (λ w. let b = w.1.1 in run_within_next old xs xs start n o first branch w.0 w.1.0 b v.planning (v.runs w.0 w.1.0 b) i q)

    pub at_run_node : (i : ℕ) → only_cause xs o ≡ Some i → i < length xs
    at_run_node i q = ∥∥₁_elim some le_prop (λ w. let s = only_shape xs o i _ (v.runs w.0 w.1.0 w.1.1).linked q in s.within)

    pub at_run_room : (i : ℕ) → only_cause xs o ≡ Some i → start + n < length xs
    at_run_room i q = ∥∥₁_elim some le_prop (λ w. let b = w.1.1 in run_room old xs xs start n o first branch w.0 w.1.0 b v.planning (v.runs w.0 w.1.0 b) i q)

    pub at_run_end : start + n ≤ length xs
    at_run_end = ∥∥₁_elim some le_prop (λ w. let b = w.1.1 in run_end old xs xs start n o first branch w.0 w.1.0 b v.planning (v.runs w.0 w.1.0 b))

  -- the next cause is planned
  pub at_run_more : (ys : List Node) (i : ℕ) → only_cause xs o ≡ Some i → Planning xs ys (start + n) → (pos : Position) → line_at ys (start + n) ≡ Some (record { node = i; position = pos }) → (more : Bool)
      → more ≡ is_some (only_cause xs (plan_at xs i).first) → ((zs : List Node) (k : ℕ) (x : Cause Content) → InRun zs k branch n more x → CauseStands zs k pos x)
      → (o' : Option ℕ) → o' ≡ (plan_at xs i).first → AtRun old ys start first o' branch (n + 1)
  at_run_more ys i q later pos is more goes stands o' to = record {
    planning = planning_more old xs start v.planning ys (start + n) (omega arith) later;
    runs = λ r p b. rw (add-one, to) (run_more old xs ys start n o first branch r p b v.planning (v.runs r p b) i q later pos is more goes stands);
  }

  -- the run ends
  module _ (q : only_cause xs o ≡ None) (r : Rows Content) (p : Path) (b : Beneath old start first branch r p) where
    pub at_run_inside : (j : ℕ) → branch ≡ Some j → 0 < n → Reached xs start (start + n) o (Some start) 0 r p
    at_run_inside j e lt = run_ends old xs xs start n o first branch r p b v.planning (v.runs r p b) q (Some start) (sym (rw e (run_level_some j start n lt)))

    pub at_run_empty : n ≤ 0 → Reached xs start (start + n) o branch 0 r p
    at_run_empty le = let z : n ≡ 0 = omega arith in run_ends old xs xs start n o first branch r p b v.planning (v.runs r p b) q branch (sym (rw z (run_level_none branch start)))

    pub at_run_main : branch ≡ None → Reached xs start (start + n) o branch 0 r p
    unfolding run_level
    at_run_main e = run_ends old xs xs start n o first branch r p b v.planning (v.runs r p b) q branch (rw e refl)
