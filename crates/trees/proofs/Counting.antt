-- How an update changes the number of frames used.
use Rattle.std.proofs.lemmas.Bool.Decides.{nat_tests}
use Rattle.std.proofs.Common.{◌≡◌, ℕ, zero, suc, ◌+◌, ◌<◌, eqb, None, Option, sym, refl, ap, ⊎_elim, arith}
use Rattle.std.specs.Map.{update}
use Rattle.std.proofs.lemmas.Map.{update_here, update_apart}
use Rattle.std.proofs.lemmas.Bool.{cases_eq}
use Rattle.trees.specs.Trees.{Tree, Listing}
use Rattle.trees.specs.Counting.{in_report, in_row, total, used}

total_zero : (n : ℕ) (f : ℕ → ℕ) → ((j : ℕ) → f j ≡ 0) → total n f ≡ 0
unfolding total
total_zero zero f z = refl
total_zero (suc n) f z = let a = total_zero n f z in let b = z n in omega arith

total_same : (n : ℕ) (f f' : ℕ → ℕ) → ((j : ℕ) → j < n → f j ≡ f' j) → total n f ≡ total n f'
unfolding total
total_same zero f f' e = refl
total_same (suc n) f f' e = let a = total_same n f f' (λ j lt. e j (omega arith)) in let b = e n (omega arith) in omega arith

-- two functions that differ at one number
total_but : (n : ℕ) (f f' : ℕ → ℕ) (i : ℕ) → i < n → ((j : ℕ) → (j ≡ i → ⊥) → f' j ≡ f j) → total n f' + f i ≡ total n f + f' i
unfolding total
total_but zero f f' i lt e = absurd (omega arith)
total_but (suc n) f f' i lt e =
    ⊎_elim
    (λ q. let a = total_same n f' f (λ j l. e j (λ r. omega arith)) in let b = ap f q in let c = ap f' q in omega arith)
    (λ q. let a = total_but n f f' i (omega arith) e in let b = e n (λ r. q (sym r)) in omega arith)
    (cases_eq i n)

pub used-none : used (λ j. None) (λ j. None) ≡ 0
used-none = total_zero 1024 (λ j. 0 + 0) (λ j. refl)

pub used_same : (g g' : ℕ → Option Tree) (h h' : ℕ → Option Listing) → ((j : ℕ) → g j ≡ g' j) → ((j : ℕ) → h j ≡ h' j) → used g h ≡ used g' h'
used_same g g' h h' p q = grind (arith, nat_tests)

-- one report changes, whatever the rows weigh
pub report_changes : (g : ℕ → Option Tree) (w : ℕ → ℕ) (i : ℕ) (v : Option Tree) → i < 1024 → total 1024 (λ j. in_report (update eqb g i v j) + w j) + in_report (g i) ≡ total 1024 (λ j. in_report (g j) + w j) + in_report v
report_changes g w i v lt =
    let a = total_but 1024 (λ j. in_report (g j) + w j) (λ j. in_report (update eqb g i v j) + w j) i lt
    (λ j n. ap (λ (t : Option Tree). in_report t + w j) (update_apart g i v j n)) in
    let b = ap in_report (update_here g i v) in
    omega arith

pub used_report : (g : ℕ → Option Tree) (h : ℕ → Option Listing) (i : ℕ) (v : Option Tree) → i < 1024 → used (update eqb g i v) h + in_report (g i) ≡ used g h + in_report v
used_report g h i v lt = report_changes g (λ j. in_row (h j)) i v lt

pub used_row : (g : ℕ → Option Tree) (h : ℕ → Option Listing) (i : ℕ) (v : Option Listing) → i < 1024 → used g (update eqb h i v) + in_row (h i) ≡ used g h + in_row v
used_row g h i v lt =
    let a = total_but 1024 (λ j. in_report (g j) + in_row (h j)) (λ j. in_report (g j) + in_row (update eqb h i v j)) i lt
    (λ j n. ap (λ (x : Option Listing). in_report (g j) + in_row x) (update_apart h i v j n)) in
    let b = ap in_row (update_here h i v) in
    omega arith
