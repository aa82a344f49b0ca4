-- Children or later reports become a row of their own.
use Rattle.std.proofs.lemmas.Bool.Decides.{nat_tests}
use Rattle.std.proofs.Common.{◌≡◌, ℕ, ◌+◌, ◌-◌, ◌<◌, ◌≤◌, true, false, cond, eqb, List, [], ◌∷◌, length, get_or, set, Some, None, Option, sym, refl, ap, ◌∙◌, subst, ⊎_elim, arith}
use Rattle.std.specs.Map.{update}
use Rattle.std.proofs.lemmas.Bool.{cases_lt, cases_Bool, ne_eqb, cond-true, cond-false}
use Rattle.std.proofs.lemmas.List.{length-set, get_or-set_same}
use Rattle.vocabulary.specs.declared.frame_error.FrameError.{FrameError}
use Rattle.trees.specs.Trees.{Tree, leaf, Listing, forest, among, first_root, list_of}
use Rattle.trees.specs.Numbered.{Numbered, none, node, size, one, tally, listing, head_of, last_from, last_of}
use Rattle.trees.proofs.Numbered.{one_same, forest-listing, among_absent, among_counts}
use Rattle.layout.specs.declared.frame.Role.{Role}
use Rattle.layout.specs.declared.frame.Role.TheVariants.{Linked, Report, Row}
use Rattle.layout.specs.declared.frame.Frame.{Frame}
use Rattle.layout.specs.Layout.{blank, frame_of, Held, Block, report, row, nodes, Stand, tallies, sizes, Laid, report_at, row_at, with_role, changed, Within, last_root, row_size, row_role}
use Rattle.layout.specs.Reports.{reports, rows, Means}
use Rattle.layout.specs.Calls.{first_of, rest_of, opened, bare, children_of, Fresh, taken, Drained}
use Rattle.layout.proofs.Held.{held_set, held-changed, stand_set, held_role, length-changed, off_head, within_last, within_head, tally_past}
use Rattle.layout.proofs.Told.{told, absent}
use Rattle.layout.proofs.Means.{covered_key, gone_key, added_key, found, first_below, first_once}
use Rattle.layout.proofs.Rows.{report_frame, report_is}

-- a forest as a row, if it has any tree
abbrev pub rowed : Numbered → List Block → List Block
rowed none bs = bs
rowed (node i e p k r) bs = row i e p k r ∷ bs

tallies_rowed : (n : ℕ) (k : Numbered) (bs : List Block) → tallies n (rowed k bs) ≡ tally n k + tallies n bs
tallies_rowed n none bs = omega arith
tallies_rowed n (node i e p k r) bs = refl

sizes_rowed : (k : Numbered) (bs : List Block) → sizes (rowed k bs) ≡ size k + sizes bs
sizes_rowed none bs = omega arith
sizes_rowed (node i e p k r) bs = refl

reports_rowed : (j : ℕ) (k : Numbered) (bs : List Block) → report_at j (rowed k bs) ≡ report_at j bs
reports_rowed j none bs = refl
reports_rowed j (node i e p k r) bs = refl

rows_rowed : (h : ℕ → Option Listing) (j : ℕ) (k : Numbered) (bs : List Block) → ((i : ℕ) → row_at i bs ≡ h i) → row_at j (rowed k bs) ≡ opened h (listing k) j
rows_rowed h j none bs e = e j
rows_rowed h j (node i a p k r) bs e = grind (arith, nat_tests)

first_listing : (k : Numbered) → head_of k ≡ first_root (listing k)
first_listing none = refl
first_listing (node i e p k r) = refl

-- the frames with a row from `first` on, and `top` at `x`
abbrev pub split_at : List Frame → ℕ → Option ℕ → Role → Frame → List Frame
split_at fs x first s top = set (changed fs first (with_role s)) x top

stand_rowed : (fs : List Frame) (k : Numbered) (bs : List Block) → Held fs Linked k → Stand fs bs → ((n : ℕ) → n < length fs → tally n k + tallies n bs ≤ 1)
    → Stand (changed fs (head_of k) (with_role (row_role (last_of k) (size k)))) (rowed k bs)
stand_rowed fs none bs h g u = g
stand_rowed fs (node i e p k r) bs h g u =
    let a = u i h.0 in
    let b = one_same i i refl in
    (held_role fs Linked _ i e p k r h (omega arith), stand_set fs bs i _ g (omega arith))

-- a root keeps the forest `k`, and `out` becomes a row
split_layout : {fs : List Frame} {head : Option ℕ} {count : ℕ} {b : Block} {rest : List Block} {free : Numbered} (l : Laid fs head count (b ∷ rest) free)
    (x : ℕ) (e : FrameError) (p : ℕ) (k out : Numbered) → head_of (nodes b) ≡ Some x → Held fs Linked k → Held fs Linked out
    → ((n : ℕ) → tally n (nodes b) ≡ one n x + (tally n k + tally n out)) → size (nodes b) ≡ (size k + 1) + size out
    → Laid (split_at fs x (head_of out) (row_role (last_of out) (size out)) (frame_of Report e p k none)) head count (report x e p k ∷ rowed out rest) free
split_layout {fs} {rest = rest} {free = free} l x e p k out q hk ho same many =
    let fs1 = changed fs (head_of out) (with_role (row_role (last_of out) (size out))) in
    let o : (n : ℕ) → n < 1024 → one n x + (tally n k + tally n out) + tallies n rest + tally n free ≡ 1 = λ n lt. (let a = l.once n lt in let b = same n in omega arith) in
    let x0 = first_below l x q in
    let ox = o x x0 in
    let sx = one_same x x refl in
    let lng = l.long in
    let long1 : length fs1 ≡ 1024 = length-changed fs (head_of out) _ ∙ l.long in
    let x1 : x < length fs1 = omega arith in
    let tr = tallies_rowed x out rest in
    record {
      stand = (
        (
          simp length-set x1,
          get_or-set_same fs1 x _ blank x1,
          held_set fs1 Linked k x _ (held-changed fs Linked k (head_of out) _ hk (off_head fs Linked out (λ n. tally n k) ho (λ n lt. let a = o n (omega arith) in omega arith))) (omega arith),
          tt,
        ),
        stand_set fs1 (rowed out rest) x _ (stand_rowed fs out rest ho l.stand.1 (λ n lt. let a = o n (omega arith) in omega arith)) (omega arith),
      );
      spare = held_set fs1 Linked free x _ (held-changed fs Linked free (head_of out) _ l.spare (off_head fs Linked out (λ n. tally n free) ho (λ n lt. let a = o n (omega arith) in omega arith))) (omega arith);
      begins = l.begins;
      once = λ n lt. let a = o n lt in let b = tallies_rowed n out rest in omega arith;
      left = l.left;
      all = let a = l.all in let b = sizes_rowed out rest in omega arith;
      long = length-set fs1 x _ ∙ long1;
    }

pub opened_same : (g h : ℕ → Option Listing) (x : Listing) (j : ℕ) → ((i : ℕ) → g i ≡ h i) → opened g x j ≡ opened h x j
opened_same g h [] j e = e j
opened_same g h (y ∷ ys) j e = grind (arith, nat_tests)

-- a number of no block is no root in a row
pub not_among : (bs : List Block) (n h : ℕ) → tallies n bs ≡ 0 → among n (list_of (row_at h bs)) ≡ false
not_among [] n h z = refl
not_among (report i e p k ∷ bs) n h z = not_among bs n h (omega arith)
not_among (row i e p k r ∷ bs) n h z =
    ⊎_elim
    (λ q. ap (λ (x : Option Listing). among n (list_of x)) (cond-true (eqb h i) _ _ q) ∙ among_absent n (node i e p k r) (omega arith))
    (λ q. ap (λ (x : Option Listing). among n (list_of x)) (cond-false (eqb h i) _ _ q) ∙ not_among bs n h (omega arith))
    (cases_Bool (eqb h i))

-- the frames as the code writes them, from what stood at `x`
abbrev pub popped_by : List Frame → ℕ → Frame → List Frame
popped_by fs x f = split_at fs x f.next (row_role (last_root f.role) (row_size f.role - f.size))
    (record { error = f.error; place = f.place; first = f.first; last = f.last; next = None; size = f.size; role = Report })

abbrev pub popped_frames : List Frame → ℕ → List Frame
popped_frames fs x = popped_by fs x (get_or fs x blank)

abbrev pub drained_by : List Frame → ℕ → Frame → List Frame
drained_by fs x f = split_at fs x f.first (row_role f.last (f.size - 1))
    (record { error = f.error; place = f.place; first = None; last = None; next = f.next; size = 1; role = f.role })

abbrev pub drained_frames : List Frame → ℕ → List Frame
drained_frames fs x = drained_by fs x (get_or fs x blank)

pub popped_from : (fs gs : List Frame) (x : ℕ) (s : Role) (l : Option ℕ) (n : ℕ) → gs ≡ changed fs (get_or fs x blank).next (with_role s)
    → s ≡ row_role l (n - (get_or fs x blank).size) → l ≡ last_root (get_or fs x blank).role → n ≡ row_size (get_or fs x blank).role
    → set gs x (record { error = (get_or fs x blank).error; place = (get_or fs x blank).place; first = (get_or fs x blank).first; last = (get_or fs x blank).last; next = None; size = (get_or fs x blank).size; role = Report })
    ≡ popped_frames fs x
popped_from fs gs x s l n a b c d = rw (a, b, c, d)

pub drained_from : (fs gs : List Frame) (x : ℕ) (s : Role) → gs ≡ changed fs (get_or fs x blank).first (with_role s)
    → s ≡ row_role (get_or fs x blank).last ((get_or fs x blank).size - 1)
    → set gs x (record { error = (get_or fs x blank).error; place = (get_or fs x blank).place; first = None; last = None; next = (get_or fs x blank).next; size = 1; role = (get_or fs x blank).role })
    ≡ drained_frames fs x
drained_from fs gs x s a b = rw (a, b)

popped_role : (fs : List Frame) (x : ℕ) (r : Numbered) (n : ℕ) (f : Frame) → n ≡ size r
    → split_at fs x (head_of r) (row_role (last_of r) (size r)) f ≡ split_at fs x (head_of r) (row_role (Some (last_from x r)) n) f
popped_role fs x none n f q = refl
popped_role fs x (node i e p k r) n f q = grind (arith, nat_tests)

-- the first report of a row stands alone again
module _ {fs : List Frame} {head : Option ℕ} {count x : ℕ} {e : FrameError} {p : ℕ} {k r : Numbered} {rest : List Block} {free : Numbered}
    (l : Laid fs head count (row x e p k r ∷ rest) free) where
  pub row_below : x < 1024
  row_below = first_below l x refl

  row_frame : get_or fs x blank ≡ frame_of (Row (last_from x r) (size (node x e p k r))) e p k r
  row_frame = l.stand.0.1

  row_is : rows fs x ≡ Some (listing (node x e p k r))
  row_is = found x _ _ _ (told l x).1

  popped_layout : Laid (split_at fs x (head_of r) (row_role (last_of r) (size r)) (frame_of Report e p k none)) head count (report x e p k ∷ rowed r rest) free
  popped_layout = split_layout l x e p k r refl l.stand.0.2 l.stand.0.3 (λ n. refl) refl

  popped_means : Means (split_at fs x (head_of r) (row_role (last_of r) (size r)) (frame_of Report e p k none))
      (update eqb (reports fs) x (first_of (rows fs x))) (opened (update eqb (rows fs) x None) (rest_of (rows fs x)))
  popped_means =
      let m = popped_layout in
      let n = first_once l x refl in
      record {
        reports = λ j. (told m j).0 ∙ added_key j x _ _ _ _ (sym (ap first_of row_is)) (reports_rowed j r rest ∙ sym (told l j).0);
        rows = λ j. (told m j).1
            ∙ rows_rowed (update eqb (rows fs) x None) j r rest (λ i. gone_key i x _ _ _ (λ w. subst (λ (y : ℕ). row_at y rest ≡ None) (sym w) n.1) (told l i).1)
            ∙ ap (λ (z : Option Listing). opened (update eqb (rows fs) x None) (rest_of z) j) (sym row_is);
      }

  popped_is : split_at fs x (head_of r) (row_role (last_of r) (size r)) (frame_of Report e p k none) ≡ popped_frames fs x
  popped_is = grind (arith, nat_tests)

  pub popped_laid : Laid (popped_frames fs x) head count (report x e p k ∷ rowed r rest) free
  popped_laid = subst (λ (gs : List Frame). Laid gs head count (report x e p k ∷ rowed r rest) free) popped_is popped_layout

  pub popped_tells : Means (popped_frames fs x) (update eqb (reports fs) x (first_of (rows fs x))) (opened (update eqb (rows fs) x None) (rest_of (rows fs x)))
  popped_tells = subst (λ (gs : List Frame). Means gs (update eqb (reports fs) x (first_of (rows fs x))) (opened (update eqb (rows fs) x None) (rest_of (rows fs x)))) popped_is popped_means

  pub popped_answer : (get_or fs x blank).next ≡ first_root (rest_of (rows fs x))
  popped_answer = ap (λ (f : Frame). f.next) row_frame ∙ first_listing r ∙ sym (ap (λ (z : Option Listing). first_root (rest_of z)) row_is)

  pub within_next : Within (get_or fs x blank).next
  within_next = rw row_frame (within_head fs Linked r l.long l.stand.0.3)

  pub row_larger : (get_or fs x blank).size ≤ row_size (get_or fs x blank).role
  row_larger = rw row_frame (omega arith)

  pub row_fits : row_size (get_or fs x blank).role + count ≤ 1024
  row_fits = grind (arith, nat_tests)

  pub within_row : Within (last_root (get_or fs x blank).role)
  within_row = rw row_frame (within_last fs _ (node x e p k r) l.long l.stand.0)

-- the children of a report's root become a row
module _ {fs : List Frame} {head : Option ℕ} {count x : ℕ} {e : FrameError} {p : ℕ} {k : Numbered} {rest : List Block} {free : Numbered}
    (l : Laid fs head count (report x e p k ∷ rest) free) where
  drained_is : split_at fs x (head_of k) (row_role (last_of k) (size k)) (frame_of Report e p none none) ≡ drained_frames fs x
  drained_is = grind (arith, nat_tests)

  pub drained_laid : Laid (drained_frames fs x) head count (report x e p none ∷ rowed k rest) free
  drained_laid = subst (λ (gs : List Frame). Laid gs head count (report x e p none ∷ rowed k rest) free) drained_is
      (split_layout l x e p none k refl tt l.stand.0.2 (λ n. omega arith) (omega arith))

  row_of_children : taken (drained_frames fs x) (head_of k) ≡ listing k
  row_of_children = go k drained_laid
    where
      go : (k : Numbered) → Laid (drained_frames fs x) head count (report x e p none ∷ rowed k rest) free → taken (drained_frames fs x) (head_of k) ≡ listing k
      go none m = refl
      go (node i f q a b) m = ap list_of (found i _ _ _ (told m i).1)

  children_fresh : (n : ℕ) → among n (listing k) ≡ true → Fresh fs n
  children_fresh n a =
      let c = among_counts n k a in
      let n0 : n < 1024 = below n c in
      let o = l.once n n0 in
      let z : tallies n rest ≡ 0 = omega arith in
      let ne : n ≡ x → ⊥ = λ q. (let s = one_same n x q in omega arith) in
      record {
        report = (told l n).0 ∙ cond-false (eqb n x) _ _ (ne_eqb n x ne) ∙ (absent rest n z).0;
        row = λ h. ap (λ (u : Option Listing). among n (list_of u)) (told l h).1 ∙ not_among rest n h z;
      }
    where
      below : (n : ℕ) → 1 ≤ tally n k → n < 1024
      below n c = ⊎_elim (λ lt. lt) (λ ge. absurd (let z = tally_past fs Linked k n l.stand.0.2 (let g = l.long in omega arith) in omega arith)) (cases_lt n 1024)

  pub drained : Drained fs (drained_frames fs x) x (get_or fs x blank).first
  drained = subst (λ (o : Option ℕ). Drained fs (drained_frames fs x) x o) (sym (ap (λ (f : Frame). f.first) (report_frame l))) (record {
    children = ap forest row_of_children ∙ forest-listing k ∙ sym (ap children_of (report_is l));
    first = first_listing k ∙ sym (ap first_root row_of_children);
    fresh = λ n a. children_fresh n (sym (ap (among n) row_of_children) ∙ a);
    means = record {
      reports = λ j. (told drained_laid j).0 ∙ ap (λ (z : Option Tree). cond (eqb j x) (Some (leaf e p)) z) (reports_rowed j k rest)
          ∙ covered_key j x _ _ _ _ _ (sym (ap bare (report_is l))) (told l j).0;
      rows = λ j. (told drained_laid j).1 ∙ rows_rowed (rows fs) j k rest (λ i. sym (told l i).1) ∙ ap (λ (z : Listing). opened (rows fs) z j) (sym row_of_children);
    };
  })

  pub within_first : Within (get_or fs x blank).first
  within_first = rw (report_frame l) (within_head fs Linked k l.long l.stand.0.2)

  pub some_size : 1 ≤ (get_or fs x blank).size
  some_size = rw (report_frame l) (omega arith)
