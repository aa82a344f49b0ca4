-- The number of free frames is what the reports and rows leave.
use Rattle.std.proofs.Common.{◌≡◌, ℕ, ◌<◌, ◌≤◌, eqb, List, [], ◌∷◌, length, Some, Option, refl, ap, ◌∙◌, arith}
use Rattle.std.specs.Map.{update}
use Rattle.trees.specs.Numbered.{Numbered, node, tree_of, listing}
use Rattle.trees.proofs.Numbered.{one_same, forest-listing}
use Rattle.layout.specs.declared.frame.Frame.{Frame}
use Rattle.layout.specs.Layout.{Block, report, row, Stand, tallies, sizes, Laid, report_at, row_at}
use Rattle.layout.specs.Reports.{reports, rows}
use Rattle.layout.proofs.Told.{told, absent}
use Rattle.layout.proofs.Means.{turned}
use Rattle.trees.specs.Trees.{frames}
use Rattle.trees.specs.Counting.{in_report, in_row, used, unused}
use Rattle.trees.proofs.Counting.{used-none, used_same, used_report, used_row}
use Rattle.trees.proofs.Numbered.{counted}

used-live : (fs : List Frame) (bs : List Block) → length fs ≡ 1024 → Stand fs bs → ((n : ℕ) → n < 1024 → tallies n bs ≤ 1) → used (λ j. report_at j bs) (λ j. row_at j bs) ≡ sizes bs
used-live fs [] g h u = used-none
used-live fs (report i e p k ∷ bs) g h u =
    let i0 : i < 1024 = (let a = h.0.0 in omega arith) in
    let s = one_same i i refl in
    let v = u i i0 in
    let ih = used-live fs bs g h.1 (λ n lt. let w = u n lt in omega arith) in
    let a = used_report (λ j. report_at j bs) (λ j. row_at j bs) i (Some (tree_of e p k)) i0 in
    let b = ap in_report (absent bs i (omega arith)).0 in
    let c = counted k in
    let d : used (λ j. report_at j (report i e p k ∷ bs)) (λ j. row_at j (report i e p k ∷ bs)) ≡ used (update eqb (λ j. report_at j bs) i (Some (tree_of e p k))) (λ j. row_at j bs) = used_same _ _ _ _ (λ j. turned j i _ (report_at j bs)) (λ j. refl) in
    omega arith
used-live fs (row i e p k r ∷ bs) g h u =
    let i0 : i < 1024 = (let a = h.0.0 in omega arith) in
    let s = one_same i i refl in
    let v = u i i0 in
    let ih = used-live fs bs g h.1 (λ n lt. let w = u n lt in omega arith) in
    let a = used_row (λ j. report_at j bs) (λ j. row_at j bs) i (Some (listing (node i e p k r))) i0 in
    let b = ap in_row (absent bs i (omega arith)).1 in
    let c = ap frames (forest-listing (node i e p k r)) ∙ counted (node i e p k r) in
    let d : used (λ j. report_at j (row i e p k r ∷ bs)) (λ j. row_at j (row i e p k r ∷ bs)) ≡ used (λ j. report_at j bs) (update eqb (λ j. row_at j bs) i (Some (listing (node i e p k r)))) = used_same _ _ _ _ (λ j. refl) (λ j. turned j i _ (row_at j bs)) in
    omega arith

pub count_is : {fs : List Frame} {head : Option ℕ} {count : ℕ} {live : List Block} {free : Numbered} → Laid fs head count live free → count ≡ unused (reports fs) (rows fs)
count_is {fs} {live = live} l =
    let a = used-live fs live l.long l.stand (λ n lt. let o = l.once n lt in omega arith) in
    let b = used_same (reports fs) (λ j. report_at j live) (rows fs) (λ j. row_at j live) (λ j. (told l j).0) (λ j. (told l j).1) in
    let c = l.all in
    let d = l.left in
    omega arith
