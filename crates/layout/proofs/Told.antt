-- What the frames mean is what their blocks say.
use Rattle.std.proofs.lemmas.Bool.Decides.{nat_tests}
use Rattle.std.proofs.Common.{◌≡◌, ℕ, zero, suc, ◌≤◌, true, eqb, ◌⊎◌, List, [], ◌∷◌, length, get_or, is_some, Some, None, Option, sym, refl, ap, ◌∙◌, subst, ap₂, inr, ⊎_elim, arith}
use Rattle.std.proofs.Math.Nat.{eq-zero-or-pos}
use Rattle.std.proofs.lemmas.Bool.{cases_lt, eq-eqb, ne_eqb, cond-true, cond-false, false≢true}
use Rattle.std.proofs.lemmas.List.{get_or_past}
use Rattle.vocabulary.specs.declared.frame_error.FrameError.{FrameError}
use Rattle.trees.specs.Trees.{Tree, Listing}
use Rattle.trees.specs.Numbered.{Numbered, none, node, shape, tree_of, listing, size, tally, head_of}
use Rattle.trees.proofs.Numbered.{one_same, one_other, apart}
use Rattle.layout.specs.declared.frame.Role.{Role}
use Rattle.layout.specs.declared.frame.Role.TheVariants.{Linked, Report, Row}
use Rattle.layout.specs.declared.frame.Frame.{Frame}
use Rattle.layout.specs.Layout.{blank, Held, Block, report, row, nodes, role_of, Stand, tallies, sizes, Laid, report_at, row_at, is_report, is_row}
use Rattle.layout.specs.Reports.{read, tree_at, read_row, reports, rows, if_report, if_row}
use Rattle.layout.proofs.Held.{inside, tallies_past}

pub read_held : (n : ℕ) (fs : List Frame) (s : Role) (r : Numbered) → Held fs s r → size r ≤ n → read n fs (head_of r) ≡ shape r
unfolding read
read_held zero fs s none h u = refl
read_held (suc n) fs s none h u = refl
read_held zero fs s (node i e p k r) h u = absurd (omega arith)
read_held (suc n) fs s (node i e p k r) h u =
    let x = read_held n fs Linked k h.2 (omega arith) in
    let y = read_held n fs Linked r h.3 (omega arith) in
    simp (h.1, x, y)

pub tree_held : (fs : List Frame) (s : Role) (i : ℕ) (e : FrameError) (p : ℕ) (k r : Numbered) → Held fs s (node i e p k r) → size k ≤ 1024 → tree_at fs i ≡ tree_of e p k
unfolding tree_at
tree_held fs s i e p k r h u = let x = read_held 1024 fs Linked k h.2 u in simp (h.1, x)

pub row_held : (n : ℕ) (fs : List Frame) (s : Role) (r : Numbered) → Held fs s r → size r ≤ n → size r ≤ 1024 → read_row n fs (head_of r) ≡ listing r
unfolding read_row
row_held zero fs s none h u v = refl
row_held (suc n) fs s none h u v = refl
row_held zero fs s (node i e p k r) h u v = absurd (omega arith)
row_held (suc n) fs s (node i e p k r) h u v =
    ap₂ (λ (t : Tree) (x : Listing). (i, t) ∷ x) (tree_held fs s i e p k r h (omega arith))
    (ap (λ (f : Frame). read_row n fs f.next) h.1 ∙ row_held n fs Linked r h.3 (omega arith) (omega arith))

abbrev pub Tells : List Frame → ℕ → Option Tree → Option Listing → Type 0
Tells fs j t x = (reports fs j ≡ t) × (rows fs j ≡ x)

-- a frame that begins nothing
pub tells_none : (fs : List Frame) (j : ℕ) → (get_or fs j blank).role ≡ Linked → Tells fs j None None
unfolding reports rows
tells_none fs j e = grind (arith, nat_tests)

pub tells_held : (fs : List Frame) (b : Block) (j : ℕ) → Held fs (role_of b) (nodes b) → size (nodes b) ≤ 1024 → head_of (nodes b) ≡ Some j → Tells fs j (report_at j (b ∷ [])) (row_at j (b ∷ []))
unfolding reports rows
tells_held fs (report i e p k) j h u q =
    let ij : j ≡ i = cc in
    subst (λ (x : ℕ). Tells fs x (report_at x (report i e p k ∷ [])) None) (sym ij) (
      ap (λ (f : Frame). if_report f.role (tree_at fs i)) h.1 ∙ ap Some (tree_held fs Report i e p k none h (omega arith)) ∙ sym (cond-true (eqb i i) _ _ (eq-eqb i i refl)),
      ap (λ (f : Frame). if_row f.role (read_row 1024 fs (Some i))) h.1,
    )
tells_held fs (row i e p k r) j h u q =
    let ij : j ≡ i = cc in
    subst (λ (x : ℕ). Tells fs x None (row_at x (row i e p k r ∷ []))) (sym ij) (
      ap (λ (f : Frame). if_report f.role (tree_at fs i)) h.1,
      ap (λ (f : Frame). if_row f.role (read_row 1024 fs (Some i))) h.1 ∙ ap Some (row_held 1024 fs _ (node i e p k r) h u u) ∙ sym (cond-true (eqb i i) _ _ (eq-eqb i i refl)),
    )

-- a number of no block begins none
pub absent : (bs : List Block) (j : ℕ) → tallies j bs ≡ 0 → (report_at j bs ≡ None) × (row_at j bs ≡ None)
absent [] j z = (refl, refl)
absent (report i e p k ∷ bs) j z =
    let h = absent bs j (omega arith) in
    (cond-false (eqb j i) _ _ (ne_eqb j i (apart j i (omega arith))) ∙ h.0, h.1)
absent (row i e p k r ∷ bs) j z =
    let h = absent bs j (omega arith) in
    (h.0, cond-false (eqb j i) _ _ (ne_eqb j i (apart j i (omega arith))) ∙ h.1)

-- the first block and the others
pub report_at_cons : (b : Block) (bs : List Block) (j : ℕ) → report_at j bs ≡ None → report_at j (b ∷ bs) ≡ report_at j (b ∷ [])
report_at_cons (report i e p k) bs j z = grind (arith, nat_tests)
report_at_cons (row i e p k r) bs j z = z

pub row_at_cons : (b : Block) (bs : List Block) (j : ℕ) → row_at j bs ≡ None → row_at j (b ∷ bs) ≡ row_at j (b ∷ [])
row_at_cons (report i e p k) bs j z = z
row_at_cons (row i e p k r) bs j z = grind (arith, nat_tests)

-- a block whose first root is another
pub others : (b : Block) (bs : List Block) (j : ℕ) → (head_of (nodes b) ≡ Some j → ⊥) → (report_at j (b ∷ bs) ≡ report_at j bs) × (row_at j (b ∷ bs) ≡ row_at j bs)
others (report i e p k) bs j n = grind (arith, nat_tests)
others (row i e p k r) bs j n = grind (arith, nat_tests)

pub is_first : (r : Numbered) (j : ℕ) → (head_of r ≡ Some j) ⊎ (head_of r ≡ Some j → ⊥)
is_first none j = inr (λ q. cc)
is_first (node i e p k r) j = grind (arith, nat_tests)

pub first_counts : (r : Numbered) (j : ℕ) → head_of r ≡ Some j → 1 ≤ tally j r
first_counts none j q = absurd cc
first_counts (node i e p k r) j q = let ij : j ≡ i = cc in let o = one_same j i ij in omega arith

-- the frame of a node that is not the first begins nothing
pub linked_inside : (fs : List Frame) (s : Role) (r : Numbered) (j : ℕ) → Held fs s r → (head_of r ≡ Some j → ⊥) → 1 ≤ tally j r → (get_or fs j blank).role ≡ Linked
linked_inside fs s none j h n u = absurd (omega arith)
linked_inside fs s (node i e p k r) j h n u =
    let o = one_other j i (λ q. n (ap Some (sym q))) in
    ⊎_elim (λ z. inside fs r j h.3 (omega arith)) (λ z. inside fs k j h.2 z) (eq-zero-or-pos (tally j k))

-- among blocks that hold a number once
told-live : (fs : List Frame) (bs : List Block) (j : ℕ) → Stand fs bs → sizes bs ≤ 1024 → tallies j bs ≡ 1 → Tells fs j (report_at j bs) (row_at j bs)
told-live fs [] j h u o = absurd (omega arith)
told-live fs (b ∷ bs) j h u o =
    ⊎_elim
    (λ q. let a = absent bs j (let c = first_counts (nodes b) j q in omega arith) in
    let t = tells_held fs b j h.0 (omega arith) q in
    (t.0 ∙ sym (report_at_cons b bs j a.0), t.1 ∙ sym (row_at_cons b bs j a.1)))
    (λ q. let c = others b bs j q in
    ⊎_elim
    (λ z. let t = told-live fs bs j h.1 (omega arith) (omega arith) in (t.0 ∙ sym c.0, t.1 ∙ sym c.1))
    (λ z. let t = tells_none fs j (linked_inside fs (role_of b) (nodes b) j h.0 q z) in
    let a = absent bs j (omega arith) in (t.0 ∙ sym a.0 ∙ sym c.0, t.1 ∙ sym a.1 ∙ sym c.1))
    (eq-zero-or-pos (tally j (nodes b))))
    (is_first (nodes b) j)

pub told : {fs : List Frame} {head : Option ℕ} {count : ℕ} {live : List Block} {free : Numbered} → Laid fs head count live free → (j : ℕ) → Tells fs j (report_at j live) (row_at j live)
told {fs} {live = live} {free = free} l j =
    ⊎_elim
    (λ lt. let o = l.once j lt in
    ⊎_elim
    (λ z. told-live fs live j l.stand (let a = l.all in omega arith) (omega arith))
    (λ z. let t = tells_none fs j (inside fs free j l.spare z) in let a = absent live j (omega arith) in (t.0 ∙ sym a.0, t.1 ∙ sym a.1))
    (eq-zero-or-pos (tally j free)))
    (λ ge. let m : length fs ≤ j = (let a = l.long in omega arith) in
    let t = tells_none fs j (ap (λ (f : Frame). f.role) (get_or_past fs j blank m)) in
    let a = absent live j (tallies_past fs live j l.stand m) in (t.0 ∙ sym a.0, t.1 ∙ sym a.1))
    (cases_lt j 1024)

pub report_says : (fs : List Frame) (n : ℕ) → is_report (get_or fs n blank).role ≡ is_some (reports fs n)
unfolding reports
report_says fs n = go (get_or fs n blank).role
  where
    go : (s : Role) → is_report s ≡ is_some (if_report s (tree_at fs n))
    go Linked = refl
    go Report = refl
    go (Row l k) = refl

pub row_says : (fs : List Frame) (n : ℕ) → is_row (get_or fs n blank).role ≡ is_some (rows fs n)
unfolding rows
row_says fs n = go (get_or fs n blank).role
  where
    go : (s : Role) → is_row s ≡ is_some (if_row s (read_row 1024 fs (Some n)))
    go Linked = refl
    go Report = refl
    go (Row l k) = refl

-- a report is no row
pub report_no_row : (fs : List Frame) (n : ℕ) → is_some (reports fs n) ≡ true → rows fs n ≡ None
unfolding reports rows
report_no_row fs n = go (get_or fs n blank).role
  where
    go : (s : Role) → is_some (if_report s (tree_at fs n)) ≡ true → if_row s (read_row 1024 fs (Some n)) ≡ None
    go Linked q = refl
    go Report q = refl
    go (Row l k) q = absurd (false≢true q)
