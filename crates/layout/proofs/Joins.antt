-- The reports of a row become the last children of a root, and a report goes to the end of a row.
use Rattle.std.proofs.lemmas.Bool.Decides.{nat_tests}
use Rattle.std.specs.Option.{option_or}
use Rattle.std.proofs.Common.{◌≡◌, ℕ, ◌+◌, ◌<◌, ◌≤◌, eqb, List, ◌∷◌, length, get_or, set, Some, None, Option, sym, refl, ap, ◌∙◌, subst, ap₂, arith}
use Rattle.std.specs.Map.{update}
use Rattle.std.proofs.lemmas.List.{length-set, get_or-set_same}
use Rattle.vocabulary.specs.declared.frame_error.FrameError.{FrameError}
use Rattle.trees.specs.Trees.{Forest, ◌then◌, Tree, Listing}
use Rattle.trees.specs.Numbered.{Numbered, none, node, ◌beside◌, size, one, tally, shape, tree_of, listing, last_from, last_of}
use Rattle.trees.proofs.Numbered.{one_same, tally_beside, size_beside, shape_beside, forest-listing, listing_beside, head_beside, last_beside, last_in}
use Rattle.layout.specs.declared.frame.Role.{Role}
use Rattle.layout.specs.declared.frame.Role.TheVariants.{Linked, Report, Row}
use Rattle.layout.specs.declared.frame.Frame.{Frame}
use Rattle.layout.specs.Layout.{blank, frame_of, Held, Block, report, row, tallies, Laid, report_at, row_at, with_role, with_next, changed, last_root, row_size, Within}
use Rattle.layout.specs.Reports.{reports, rows, Means}
use Rattle.layout.specs.Calls.{under, alone, joined}
use Rattle.layout.proofs.Held.{held_set, held-changed, stand_set, stand_changed, held_role, length-changed, join, joins, off_last, last_below, within_last}
use Rattle.layout.proofs.Told.{told, absent}
use Rattle.layout.proofs.Means.{covered_key, gone_key, found, first_below}
use Rattle.layout.proofs.Rows.{report_frame, report_is}

-- the frames after the row at `y` was put under `x`, whose root frame is now `top`
abbrev pub joined_at : List Frame → ℕ → ℕ → Option ℕ → Frame → List Frame
joined_at fs x y last top = set (changed (set fs y (with_role Linked (get_or fs y blank))) last (with_next (Some y))) x top

-- the root frame with the row at `y`, which has this role, as its last children
abbrev pub widened : Frame → Role → ℕ → Frame
widened top s y = record { error = top.error; place = top.place; first = option_or top.first (Some y); last = last_root s; next = top.next; size = top.size + row_size s; role = top.role }

-- the frames after the report at `x` was put at the end of the row at `y`, whose last root was `last`
abbrev pub pushed_at : List Frame → ℕ → ℕ → Option ℕ → Role → List Frame
pushed_at fs x y last s = changed (changed (set fs x (with_role Linked (get_or fs x blank))) last (with_next (Some x))) (Some y) (with_role s)

-- the same, from the frames alone
abbrev pub joined_frames : List Frame → ℕ → ℕ → List Frame
joined_frames fs x y = joined_at fs x y (get_or fs x blank).last (widened (get_or fs x blank) (get_or fs y blank).role y)

abbrev pub pushed_frames : List Frame → ℕ → ℕ → List Frame
pushed_frames fs x y = pushed_at fs x y (last_root (get_or fs y blank).role) (Row x (row_size (get_or fs y blank).role + (get_or fs x blank).size))

-- the writes, one after another
pub joined_from : (fs gs ms : List Frame) (x y : ℕ) (first last : Option ℕ) (n : ℕ)
    → gs ≡ set fs y (with_role Linked (get_or fs y blank)) → ms ≡ changed gs (get_or fs x blank).last (with_next (Some y))
    → first ≡ option_or (get_or fs x blank).first (Some y) → last ≡ last_root (get_or fs y blank).role → n ≡ row_size (get_or fs y blank).role
    → set ms x (record { error = (get_or fs x blank).error; place = (get_or fs x blank).place; first = first; last = last; next = (get_or fs x blank).next; size = (get_or fs x blank).size + n; role = (get_or fs x blank).role })
    ≡ joined_frames fs x y
joined_from fs gs ms x y first last n a b c d e = rw (b, a, c, d, e)

pub pushed_from : (fs gs ms os : List Frame) (x y : ℕ) (last : Option ℕ) (n : ℕ)
    → gs ≡ set fs x (with_role Linked (get_or fs x blank)) → ms ≡ changed gs last (with_next (Some x))
    → os ≡ set ms y (with_role (Row x (n + (get_or fs x blank).size)) (get_or ms y blank)) → last ≡ last_root (get_or fs y blank).role → n ≡ row_size (get_or fs y blank).role
    → os ≡ pushed_frames fs x y
pushed_from fs gs ms os x y last n a b c d e = rw (c, b, a, d, e)

frame_same : (e : FrameError) (p : ℕ) (a a' b b' n : Option ℕ) (z z' : ℕ) (s : Role) → a ≡ a' → b ≡ b' → z ≡ z'
    → ◌≡◌ {A = Frame} (record { error = e; place = p; first = a; last = b; next = n; size = z; role = s }) (record { error = e; place = p; first = a'; last = b'; next = n; size = z'; role = s })
frame_same e p a a' b b' n z z' s u v w = λ i. record { error = e; place = p; first = u i; last = v i; next = n; size = w i; role = s }

widened_is : (e : FrameError) (p : ℕ) (k : Numbered) (y : ℕ) (f : FrameError) (q : ℕ) (m r : Numbered)
    → widened (frame_of Report e p k none) (Row (last_from y r) (size (node y f q m r))) y ≡ frame_of Report e p (k beside node y f q m r) none
widened_is e p k y f q m r = frame_same _ _ _ _ _ _ _ _ _ _ (head_beside k (node y f q m r)) (lasts k) (let a = size_beside k (node y f q m r) in omega arith)
  where
    lasts : (k : Numbered) → Some (last_from y r) ≡ last_of (k beside node y f q m r)
    lasts none = refl
    lasts (node a b c d g) = ap Some (sym (last_beside a g y f q m r))

module _ {fs : List Frame} {head : Option ℕ} {count x y : ℕ} {e : FrameError} {p : ℕ} {k : Numbered} {f : FrameError} {q : ℕ} {m r : Numbered} {rest : List Block} {free : Numbered}
    (l : Laid fs head count (report x e p k ∷ row y f q m r ∷ rest) free) where
  pub x_below : x < 1024
  x_below = first_below l x refl

  pub y_below : y < 1024
  y_below = let a = l.stand.1.0.0 in let b = l.long in omega arith

  y_is : rows fs y ≡ Some (listing (node y f q m r))
  y_is = found y _ _ _ (told l y).1

  -- the roots stand nowhere else
  x_once : tally x k + (one x y + (tally x m + tally x r)) + tallies x rest + tally x free ≡ 0
  x_once = let a = l.once x x_below in let b = one_same x x refl in omega arith

  y_once : (one y x + tally y k) + (tally y m + tally y r) + tallies y rest + tally y free ≡ 0
  y_once = let a = l.once y y_below in let b = one_same y y refl in omega arith

  joined_layout : Laid (joined_at fs x y (last_of k) (frame_of Report e p (k beside node y f q m r) none)) head count (report x e p (k beside node y f q m r) ∷ rest) free
  joined_layout =
      let fs1 = set fs y (with_role Linked (get_or fs y blank)) in
      let fs2 = changed fs1 (last_of k) (with_next (Some y)) in
      let o = l.once in
      let ox = x_once in
      let oy = y_once in
      let long1 : length fs1 ≡ 1024 = simp length-set l.long in
      let long2 : length fs2 ≡ 1024 = length-changed fs1 (last_of k) _ ∙ long1 in
      let x2 : x < length fs2 = (let a = x_below in omega arith) in
      let kids1 : Held fs1 Linked k = held_set fs Linked k y _ l.stand.0.2 (omega arith) in
      let moved1 : Held fs1 Linked (node y f q m r) = held_role fs _ Linked y f q m r l.stand.1.0 (omega arith) in
      let kids2 : Held fs2 Linked (k beside node y f q m r) = joins fs1 k (node y f q m r) kids1 moved1 (λ n lt. let a = o n (omega arith) in omega arith) in
      let tb = tally_beside x k (node y f q m r) in
      record {
        stand = (
          (simp length-set x2, get_or-set_same fs2 x _ blank x2, held_set fs2 Linked (k beside node y f q m r) x _ kids2 (omega arith), tt),
          stand_set fs2 rest x _
              (stand_changed fs1 rest (last_of k) _ (stand_set fs rest y _ l.stand.1.1 (omega arith))
              (off_last fs1 Linked k (λ n. tallies n rest) kids1 (λ n lt. let a = o n (omega arith) in omega arith)))
              (omega arith),
        );
        spare = held_set fs2 Linked free x _
            (held-changed fs1 Linked free (last_of k) _ (held_set fs Linked free y _ l.spare (omega arith))
            (off_last fs1 Linked k (λ n. tally n free) kids1 (λ n lt. let a = o n (omega arith) in omega arith)))
            (omega arith);
        begins = l.begins;
        once = λ n lt. let a = o n lt in let b = tally_beside n k (node y f q m r) in omega arith;
        left = l.left;
        all = let a = l.all in let b = size_beside k (node y f q m r) in omega arith;
        long = simp length-set long2;
      }

  joined_means : Means (joined_at fs x y (last_of k) (frame_of Report e p (k beside node y f q m r) none)) (update eqb (reports fs) x (under (reports fs x) (rows fs y))) (update eqb (rows fs) y None)
  joined_means =
      let a = joined_layout in
      let none_y : row_at y rest ≡ None = (absent rest y (let b = y_once in omega arith)).1 in
      let tree_is : Some (tree_of e p (k beside node y f q m r)) ≡ under (reports fs x) (rows fs y) =
      ap (λ (c : Forest). Some (record { error = e; place = p; children = c })) (shape_beside k (node y f q m r) ∙ ap (λ (c : Forest). shape k then c) (sym (forest-listing (node y f q m r))))
      ∙ sym (ap₂ under (report_is l) y_is) in
      record {
        reports = λ j. (told a j).0 ∙ covered_key j x _ _ _ _ _ tree_is (told l j).0;
        rows = λ j. (told a j).1 ∙ gone_key j y _ _ _ (λ w. subst (λ (z : ℕ). row_at z rest ≡ None) (sym w) none_y) (told l j).1;
      }

  y_role : (get_or fs y blank).role ≡ Row (last_from y r) (size (node y f q m r))
  y_role = ap (λ (g : Frame). g.role) l.stand.1.0.1

  joined_is : joined_at fs x y (last_of k) (frame_of Report e p (k beside node y f q m r) none) ≡ joined_frames fs x y
  joined_is = sym (ap₂ (joined_at fs x y) (ap (λ (g : Frame). g.last) (report_frame l)) (ap₂ (λ (g : Frame) (s : Role). widened g s y) (report_frame l) y_role ∙ widened_is e p k y f q m r))

  pub joined_laid : Laid (joined_frames fs x y) head count (report x e p (k beside node y f q m r) ∷ rest) free
  joined_laid = subst (λ (gs : List Frame). Laid gs head count (report x e p (k beside node y f q m r) ∷ rest) free) joined_is joined_layout

  pub joined_tells : Means (joined_frames fs x y) (update eqb (reports fs) x (under (reports fs x) (rows fs y))) (update eqb (rows fs) y None)
  joined_tells = subst (λ (gs : List Frame). Means gs (update eqb (reports fs) x (under (reports fs x) (rows fs y))) (update eqb (rows fs) y None)) joined_is joined_means

  pub both_fit : (get_or fs x blank).size + row_size (get_or fs y blank).role ≤ 1024
  both_fit = rw (report_frame l, y_role) (let a = l.all in omega arith)

  pushed_layout : (n : ℕ) → n ≡ size (node y f q m r) + (size k + 1)
      → Laid (pushed_at fs x y (Some (last_from y r)) (Row x n)) head count (row y f q m (r beside node x e p k none) ∷ rest) free
  pushed_layout n c =
      let fs1 = set fs x (with_role Linked (get_or fs x blank)) in
      let z = last_from y r in
      let fs2 = set fs1 z (with_next (Some x) (get_or fs1 z blank)) in
      let o = l.once in
      let ox = x_once in
      let oy = y_once in
      let long1 : length fs1 ≡ 1024 = simp length-set l.long in
      let long2 : length fs2 ≡ 1024 = length-set fs1 z _ ∙ long1 in
      let row1 : Held fs1 (Row z (size (node y f q m r))) (node y f q m r) = held_set fs _ (node y f q m r) x _ l.stand.1.0 (omega arith) in
      let moved1 : Held fs1 Linked (node x e p k none) = held_role fs Report Linked x e p k none l.stand.0 (omega arith) in
      let row2 : Held fs2 (Row z (size (node y f q m r))) (node y f q m (r beside node x e p k none)) = join fs1 _ y f q m r (node x e p k none) row1 moved1 (λ i lt. let a = o i (omega arith) in omega arith) in
      let oz = o z (let a = last_below fs1 _ y f q m r row1 in omega arith) in
      let lz = last_in y f q m r in
      let tb = tally_beside y r (node x e p k none) in
      let role : Row x n ≡ Row (last_from y (r beside node x e p k none)) (size (node y f q m (r beside node x e p k none))) =
      ap₂ Row (sym (last_beside y r x e p k none)) (let a = size_beside r (node x e p k none) in omega arith) in
      record {
        stand = (
          subst (λ (s : Role). Held (set fs2 y (with_role (Row x n) (get_or fs2 y blank))) s (node y f q m (r beside node x e p k none))) role
              (held_role fs2 _ (Row x n) y f q m (r beside node x e p k none) row2 (omega arith)),
          stand_set fs2 rest y _ (stand_set fs1 rest z _ (stand_set fs rest x _ l.stand.1.1 (omega arith)) (omega arith)) (omega arith),
        );
        spare = held_set fs2 Linked free y _ (held_set fs1 Linked free z _ (held_set fs Linked free x _ l.spare (omega arith)) (omega arith)) (omega arith);
        begins = l.begins;
        once = λ i lt. let a = o i lt in let b = tally_beside i r (node x e p k none) in omega arith;
        left = l.left;
        all = let a = l.all in let b = size_beside r (node x e p k none) in omega arith;
        long = length-set fs2 y _ ∙ long2;
      }

  pushed_means : (n : ℕ) → n ≡ size (node y f q m r) + (size k + 1)
      → Means (pushed_at fs x y (Some (last_from y r)) (Row x n)) (update eqb (reports fs) x None) (update eqb (rows fs) y (joined (rows fs y) (alone x (reports fs x))))
  pushed_means n c =
      let a = pushed_layout n c in
      let none_x : report_at x rest ≡ None = (absent rest x (let b = x_once in omega arith)).0 in
      let row_is : Some (listing (node y f q m (r beside node x e p k none))) ≡ joined (rows fs y) (alone x (reports fs x)) =
      ap (λ (z : Listing). Some ((y, tree_of f q m) ∷ z)) (listing_beside r (node x e p k none)) ∙ sym (ap₂ (λ (u : Option Listing) (t : Option Tree). joined u (alone x t)) y_is (report_is l)) in
      record {
        reports = λ j. (told a j).0 ∙ gone_key j x _ _ _ (λ w. subst (λ (z : ℕ). report_at z rest ≡ None) (sym w) none_x) (told l j).0;
        rows = λ j. (told a j).1 ∙ covered_key j y _ _ _ _ _ row_is (told l j).1;
      }

  pushed_size : row_size (get_or fs y blank).role + (get_or fs x blank).size ≡ size (node y f q m r) + (size k + 1)
  pushed_size = rw (report_frame l, y_role) refl

  pushed_is : pushed_at fs x y (Some (last_from y r)) (Row x (row_size (get_or fs y blank).role + (get_or fs x blank).size)) ≡ pushed_frames fs x y
  pushed_is = grind (arith, nat_tests)

  pub pushed_laid : Laid (pushed_frames fs x y) head count (row y f q m (r beside node x e p k none) ∷ rest) free
  pushed_laid = subst (λ (gs : List Frame). Laid gs head count (row y f q m (r beside node x e p k none) ∷ rest) free) pushed_is (pushed_layout _ pushed_size)

  pub pushed_tells : Means (pushed_frames fs x y) (update eqb (reports fs) x None) (update eqb (rows fs) y (joined (rows fs y) (alone x (reports fs x))))
  pushed_tells = subst (λ (gs : List Frame). Means gs (update eqb (reports fs) x None) (update eqb (rows fs) y (joined (rows fs y) (alone x (reports fs x))))) pushed_is (pushed_means _ pushed_size)

  pub within_kids : Within (get_or fs x blank).last
  within_kids = rw (report_frame l) (within_last fs Linked k l.long l.stand.0.2)

  pub within_row : Within (last_root (get_or fs y blank).role)
  within_row = rw y_role (within_last fs _ (node y f q m r) l.long l.stand.1.0)
