-- What each call leaves, from what is known of the frames and its arguments.
use Rattle.std.specs.Option.{option_or}
use Rattle.std.proofs.Common.{◌≡◌, ℕ, ◌+◌, ◌-◌, ◌<◌, ◌≤◌, true, cond, eqb, List, get_or, set, is_some, Some, None, Option, sym, refl, ap, ◌∙◌, ap₂, arith}
use mathlib.Core.Bool.{Bool-set}
use mathlib.Core.Logic.{∥∥₁_elim, ∥∥₁_map}
use native.Mathlib.Bridge.{le_prop}
use native.Mathlib.Nat.{ℕ_set}
use Rattle.std.specs.Map.{update}
use Rattle.std.proofs.lemmas.List.{get_or_past}
use Rattle.std.proofs.lemmas.Map.{update_here, update_apart}
use Rattle.std.proofs.lemmas.Bool.Decides.{nat_tests}
use Rattle.trees.specs.Trees.{Tree, Listing, first_root}
use Rattle.trees.specs.Numbered.{Numbered, tree_of}
use Rattle.trees.proofs.Sets.{forest_set, report_set, row_set, option_set}
use Rattle.layout.specs.declared.frame.Role.TheVariants.{Linked, Row}
use Rattle.layout.specs.declared.frame.Frame.{Frame}
use Rattle.layout.specs.Layout.{blank, Layout, Sound, with_role, Within, last_root, row_size}
use Rattle.layout.specs.Reports.{reports, rows, Means}
use Rattle.layout.specs.Calls.{alone, under, joined, first_of, rest_of, opened, Drained, Begun}
use Rattle.trees.specs.Counting.{unused, in_report}
use Rattle.trees.proofs.Numbered.{counted}
use Rattle.layout.specs.Placed.{Placed}
use Rattle.vocabulary.specs.declared.frame_error.FrameError.{FrameError}
use Rattle.layout.proofs.Front.{front_report, FrontRow, front_row, FrontBoth, front_both}
use Rattle.layout.proofs.Joins as joins
use Rattle.layout.proofs.Joins.{joined_frames, pushed_frames}
use Rattle.layout.proofs.Split as split
use Rattle.layout.proofs.Split.{popped_frames, drained_frames}
use Rattle.layout.proofs.Count.{count_is}
use Rattle.layout.proofs.Free as freeing
use Rattle.layout.proofs.Free.{freed_frames, begun_frames, First, first_free, none_free}
use Rattle.layout.proofs.Told.{report_no_row}
use Rattle.layout.proofs.Means.{turned}
use Rattle.layout.proofs.Rows.{report_below, report_frame, report_is, rowed_layout, rowed_means}

pub means_prop : (fs : List Frame) (g : ℕ → Option Tree) (h : ℕ → Option Listing) → IsProp (Means fs g h)
means_prop fs g h = hlevel (report_set, row_set)

pub drained_prop : (fs gs : List Frame) (x : ℕ) (o : Option ℕ) → IsProp (Drained fs gs x o)
drained_prop fs gs x o = hlevel (means_prop, report_set, forest_set, option_set, ℕ_set, Bool-set)

pub begun_prop : (fs gs : List Frame) (e : FrameError) (p n : ℕ) → IsProp (Begun fs gs e p n)
begun_prop fs gs e p n = hlevel (means_prop, report_set, le_prop, Bool-set)

pub within_prop : (o : Option ℕ) → IsProp (Within o)
within_prop None = λ x y. refl
within_prop (Some i) = le_prop

module _ {fs : List Frame} {head : Option ℕ} {count : ℕ} (sound : Sound fs head count) where
  pub past_role : (n : ℕ) → 1024 ≤ n → (get_or fs n blank).role ≡ Linked
  past_role n u = ap (λ (f : Frame). f.role) (get_or_past fs n blank (∥∥₁_elim sound le_prop (λ l. let a = l.laid.long in omega arith)))

  -- a report
  module _ (x : ℕ) (live : is_some (reports fs x) ≡ true) where
    pub live_below : x < 1024
    live_below = ∥∥₁_elim sound le_prop (λ l. report_below (front_report l.laid x live).laid)

    pub row_of_sound : Sound (set fs x (with_role (Row x (get_or fs x blank).size) (get_or fs x blank))) head count
    row_of_sound = ∥∥₁_map sound (λ l. let f = front_report l.laid x live in
        record { live = _; free = l.free; laid = rowed_layout f.laid _ (ap (λ (g : Frame). g.size) (report_frame f.laid)) })

    pub row_of_means : Means (set fs x (with_role (Row x (get_or fs x blank).size) (get_or fs x blank))) (update eqb (reports fs) x None) (update eqb (rows fs) x (alone x (reports fs x)))
    row_of_means = ∥∥₁_elim sound (means_prop _ _ _) (λ l. let f = front_report l.laid x live in
        rowed_means f.laid _ (ap (λ (g : Frame). g.size) (report_frame f.laid)))

    pub size_is : (get_or fs x blank).size ≡ in_report (reports fs x)
    size_is = ∥∥₁_elim sound (ℕ_set _ _) (λ l. let f = front_report l.laid x live in
        ap (λ (g : Frame). g.size) (report_frame f.laid) ∙ ap (λ (n : ℕ). n + 1) (sym (counted f.kids)) ∙ sym (ap in_report (report_is f.laid)))

    pub drain_sound : (gs : List Frame) → gs ≡ drained_frames fs x → Sound gs head count
    drain_sound gs e = rw e (∥∥₁_map sound (λ l. record { live = _; free = l.free; laid = split.drained_laid (front_report l.laid x live).laid }))

    pub drain_answer : (gs : List Frame) → gs ≡ drained_frames fs x → Drained fs gs x (get_or fs x blank).first
    drain_answer gs e = rw e (∥∥₁_elim sound (drained_prop _ _ _ _) (λ l. split.drained (front_report l.laid x live).laid))

    pub within_first : Within (get_or fs x blank).first
    within_first = ∥∥₁_elim sound (within_prop _) (λ l. split.within_first (front_report l.laid x live).laid)

    pub some_size : 1 ≤ (get_or fs x blank).size
    some_size = ∥∥₁_elim sound le_prop (λ l. split.some_size (front_report l.laid x live).laid)

  -- a row
  module _ (x : ℕ) (begun : is_some (rows fs x) ≡ true) where
    first : (l : Layout fs head count) → FrontRow fs head count l.free x
    first l = front_row l.laid x begun

    pub head_below : x < 1024
    head_below = ∥∥₁_elim sound le_prop (λ l. split.row_below (first l).laid)

    pub within_next : Within (get_or fs x blank).next
    within_next = ∥∥₁_elim sound (within_prop _) (λ l. split.within_next (first l).laid)

    pub within_last_root : Within (last_root (get_or fs x blank).role)
    within_last_root = ∥∥₁_elim sound (within_prop _) (λ l. split.within_row (first l).laid)

    pub row_larger : (get_or fs x blank).size ≤ row_size (get_or fs x blank).role
    row_larger = ∥∥₁_elim sound le_prop (λ l. split.row_larger (first l).laid)

    pub row_fits : row_size (get_or fs x blank).role + count ≤ 1024
    row_fits = ∥∥₁_elim sound le_prop (λ l. split.row_fits (first l).laid)

    pub pop_sound : (gs : List Frame) → gs ≡ popped_frames fs x → Sound gs head count
    pop_sound gs e = rw e (∥∥₁_map sound (λ l. record { live = _; free = l.free; laid = split.popped_laid (first l).laid }))

    pub pop_means : (gs : List Frame) → gs ≡ popped_frames fs x → Means gs (update eqb (reports fs) x (first_of (rows fs x))) (opened (update eqb (rows fs) x None) (rest_of (rows fs x)))
    pop_means gs e = rw e (∥∥₁_elim sound (means_prop _ _ _) (λ l. split.popped_tells (first l).laid))

    pub pop_answer : (get_or fs x blank).next ≡ first_root (rest_of (rows fs x))
    pop_answer = ∥∥₁_elim sound (option_set ℕ_set _ _) (λ l. split.popped_answer (first l).laid)

    pub free_sound : (gs : List Frame) (n : ℕ) → gs ≡ freed_frames fs x head → n ≡ row_size (get_or fs x blank).role → Sound gs (Some x) (count + n)
    free_sound gs n e q = rw (e, q) (∥∥₁_map sound (λ l. record { live = _; free = _; laid = freeing.freed_laid (first l).laid }))

    pub free_means : (gs : List Frame) → gs ≡ freed_frames fs x head → Means gs (reports fs) (update eqb (rows fs) x None)
    free_means gs e = rw e (∥∥₁_elim sound (means_prop _ _ _) (λ l. freeing.freed_tells (first l).laid))

  -- where a report lies
  pub placed : (x : ℕ) (t : Tree) → reports fs x ≡ Some t → ∥ ((k : Numbered) × Placed fs x t k) ∥₁
  placed x t e = ∥∥₁_map sound (λ l.
      let f = front_report l.laid x (ap is_some e) in
      let g = report_frame f.laid in
      let r = report_is f.laid in
      let q : tree_of f.error f.place f.kids ≡ t = cc in (
        f.kids,
        record {
          below = report_below f.laid;
          error = ap (λ (h : Frame). h.error) g ∙ ap (λ (u : Tree). u.error) q;
          place = ap (λ (h : Frame). h.place) g ∙ ap (λ (u : Tree). u.place) q;
          first = ap (λ (h : Frame). h.first) g;
          size = ap (λ (h : Frame). h.size) g;
          fits = (let a = f.laid.all in omega arith);
          held = f.laid.stand.0.2;
          children = ap (λ (u : Tree). u.children) q;
          long = f.laid.long;
        },
      ))

  -- the free frames
  pub free_count : count ≡ unused (reports fs) (rows fs)
  free_count = ∥∥₁_elim sound (ℕ_set _ _) (λ l. count_is l.laid)

  pub full : head ≡ None → unused (reports fs) (rows fs) ≡ 0
  full h = sym free_count ∙ ∥∥₁_elim sound (ℕ_set _ _) (λ l. none_free l.free l.laid h)

  module _ (i : ℕ) (is : head ≡ Some i) where
    next : (l : Layout fs head count) → First fs head count l.live i
    next l = first_free l.free i l.laid is

    pub free_below : i < 1024
    free_below = ∥∥₁_elim sound le_prop (λ l. freeing.free_below (next l).laid)

    pub within_free : Within (get_or fs i blank).last
    within_free = ∥∥₁_elim sound (within_prop _) (λ l. freeing.within_free (next l).laid)

    pub some_free : 1 ≤ count
    some_free = ∥∥₁_elim sound le_prop (λ l. freeing.some_free (next l).laid)

    pub begin_sound : (e : FrameError) (p : ℕ) (gs : List Frame) (h : Option ℕ) → gs ≡ begun_frames fs i e p → h ≡ option_or (get_or fs i blank).first (get_or fs i blank).next → Sound gs h (count - 1)
    begin_sound e p gs h q w = rw (q, w) (∥∥₁_map sound (λ l. record { live = _; free = _; laid = freeing.begun_laid (next l).laid e p }))

    pub begin_answer : (e : FrameError) (p : ℕ) (gs : List Frame) → gs ≡ begun_frames fs i e p → Begun fs gs e p i
    begin_answer e p gs q = rw q (∥∥₁_elim sound (begun_prop _ _ _ _ _) (λ l. freeing.begun (next l).laid e p))

  -- a report and a row
  module _ (x y : ℕ) (live : is_some (reports fs x) ≡ true) (begun : is_some (rows fs y) ≡ true) where
    both : (l : Layout fs head count) → FrontBoth fs head count l.free x y
    both l = front_both l.laid x y live begun

    pub row_below : y < 1024
    row_below = ∥∥₁_elim sound le_prop (λ l. joins.y_below (both l).laid)

    pub within_kids : Within (get_or fs x blank).last
    within_kids = ∥∥₁_elim sound (within_prop _) (λ l. joins.within_kids (both l).laid)

    pub within_row : Within (last_root (get_or fs y blank).role)
    within_row = ∥∥₁_elim sound (within_prop _) (λ l. joins.within_row (both l).laid)

    pub both_fit : (get_or fs x blank).size + row_size (get_or fs y blank).role ≤ 1024
    both_fit = ∥∥₁_elim sound le_prop (λ l. joins.both_fit (both l).laid)

    pub join_sound : (gs : List Frame) → gs ≡ joined_frames fs x y → Sound gs head count
    join_sound gs e = rw e (∥∥₁_map sound (λ l. record { live = _; free = l.free; laid = joins.joined_laid (both l).laid }))

    pub join_means : (gs : List Frame) → gs ≡ joined_frames fs x y → Means gs (update eqb (reports fs) x (under (reports fs x) (rows fs y))) (update eqb (rows fs) y None)
    join_means gs e = rw e (∥∥₁_elim sound (means_prop _ _ _) (λ l. joins.joined_tells (both l).laid))

    pub push_sound : (gs : List Frame) → gs ≡ pushed_frames fs x y → Sound gs head count
    push_sound gs e = rw e (∥∥₁_map sound (λ l. record { live = _; free = l.free; laid = joins.pushed_laid (both l).laid }))

    pub push_means : (gs : List Frame) → gs ≡ pushed_frames fs x y → Means gs (update eqb (reports fs) x None) (update eqb (rows fs) y (joined (rows fs y) (alone x (reports fs x))))
    push_means gs e = rw e (∥∥₁_elim sound (means_prop _ _ _) (λ l. joins.pushed_tells (both l).laid))

-- what bounds the numbers, links and sizes that a call reads
pub ruleset bounds = (live_below, within_first, some_size, size_is, head_below, within_next, within_last_root, row_larger, row_fits, free_count, free_below, within_free, some_free, row_below, within_kids, within_row, both_fit)

-- two calls, one after the other
cond_twice : {A : Type 0} (j y : ℕ) (w : Option A) (f : ℕ → Option A) → f y ≡ None → cond (eqb j y) None (cond (eqb j y) w (f j)) ≡ f j
cond_twice j y w f n = grind (arith, nat_tests)

-- a row that was made of a report is gone again
pub row_gone : (fs gs : List Frame) (y : ℕ) → is_some (reports fs y) ≡ true → Means gs (update eqb (reports fs) y None) (update eqb (rows fs) y (alone y (reports fs y)))
    → (j : ℕ) → update eqb (rows gs) y None j ≡ rows fs j
row_gone fs gs y s m j =
    sym (turned j y None (rows gs j))
    ∙ ap (λ (x : Option Listing). cond (eqb j y) None x) (m.rows j ∙ sym (turned j y _ (rows fs j)))
    ∙ cond_twice j y _ (rows fs) (report_no_row fs y s)

pub join_both : (fs gs hs : List Frame) (x y : ℕ) → is_some (reports fs y) ≡ true → (x ≡ y → ⊥)
    → Means gs (update eqb (reports fs) y None) (update eqb (rows fs) y (alone y (reports fs y)))
    → Means hs (update eqb (reports gs) x (under (reports gs x) (rows gs y))) (update eqb (rows gs) y None)
    → Means hs (update eqb (update eqb (reports fs) y None) x (under (reports fs x) (alone y (reports fs y)))) (rows fs)
join_both fs gs hs x y s ne a b =
    let rx : reports gs x ≡ reports fs x = a.reports x ∙ update_apart (reports fs) y None x ne in
    let ry : rows gs y ≡ alone y (reports fs y) = a.rows y ∙ update_here (rows fs) y (alone y (reports fs y)) in
    record {
      reports = λ j. b.reports j ∙ ap₂ (λ (v w : Option Tree). cond (eqb x j) v w) (ap₂ under rx ry) (a.reports j);
      rows = λ j. b.rows j ∙ row_gone fs gs y s a j;
    }

pub discard_both : (fs gs hs : List Frame) (y : ℕ) → is_some (reports fs y) ≡ true
    → Means gs (update eqb (reports fs) y None) (update eqb (rows fs) y (alone y (reports fs y)))
    → Means hs (reports gs) (update eqb (rows gs) y None)
    → Means hs (update eqb (reports fs) y None) (rows fs)
discard_both fs gs hs y s a b = record { reports = λ j. b.reports j ∙ a.reports j; rows = λ j. b.rows j ∙ row_gone fs gs y s a j }
