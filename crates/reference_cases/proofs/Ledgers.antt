-- What the ledger says of the raises, and of a store without a free frame.
use Rattle.std.proofs.Common.{◌≡◌, ◌≢◌, ℕ, zero, suc, ◌+◌, ◌<◌, ◌≤◌, true, ◌&&◌, eqb, is_some, Some, None, Option, sym, refl, ap, ◌∙◌, arith}
use Rattle.std.proofs.lemmas.Map.{update_apart}
use Rattle.std.proofs.lemmas.Bool.Decides.{nat_tests}
use Rattle.vocabulary.specs.declared.fault.StoreFault.TheVariants.{NoFrames}
use Rattle.vocabulary.specs.declared.frame_error.FrameError.{FrameError}
use Rattle.vocabulary.specs.declared.frame_error.FrameError.TheVariants.{Host}
use Rattle.model.specs.Host.{Errors, Live}
use Rattle.trees.specs.Counting.{in_report, total}
use Rattle.trees.specs.Trees.{Tree, empty, tree, leaf}
use Rattle.trees.proofs.Counting.{report_changes}
use Rattle.ledger.specs.Causes.{is_held}
use Rattle.ledger.specs.Ledger.{Ledger, discarded, free, in_row, used}
use Rattle.reference_cases.specs.Reports.{FitsStore, raise_cause, raised_over_new, raised_over_two, filled}

-- the reports of the two raises
abbrev pub raised_tree : ℕ → ℕ → Tree
raised_tree p q = record { error = Host 34; place = p; children = tree (Host 17) q empty empty }

abbrev pub gauges_tree : ℕ → ℕ → ℕ → Tree
gauges_tree p q r = record { error = Host 0; place = r; children = tree (Host 6) p empty (tree (Host 6) q empty empty) }

pub raised_is : (l : Ledger) (x n p q : ℕ) → raised_over_new l x n p q ≡ Some (raised_tree p q)
raised_is l x n p q = grind (arith, nat_tests)

pub gauges_are : (l : Ledger) (x y n p q r : ℕ) → raised_over_two l x y n p q r ≡ Some (gauges_tree p q r)
gauges_are l x y n p q r = grind (arith, nat_tests)

module _ (number : ℕ) (h : Errors) (s x e : ℕ) where
  pub refused : (l : Ledger) → free l ≡ 0 → is_held number l s x ≡ true → Live h e → raise_cause number l h s x e ≡ Some (NoFrames 1)
  refused l f k v = grind (arith, nat_tests)

  granted : (l : Ledger) → 0 < free l → is_held number l s x ≡ true → Live h e → raise_cause number l h s x e ≡ None
  granted l f k v = grind (arith, nat_tests)

freed : (l : Ledger) (y : ℕ) (d : FrameError) (p : ℕ) → FitsStore l → l.reports y ≡ Some (leaf d p) → free (discarded l y) ≡ free l + 1
freed l y d p s r =
    let a = report_changes l.reports (λ j. in_row (l.rows j)) y None (s.roots y (ap is_some r)) in
    let b = ap in_report r in
    let c = s.frames in
    omega arith

other_held : (number : ℕ) (l : Ledger) (s x y : ℕ) → y ≢ x → is_held number l s x ≡ true → is_held number (discarded l y) s x ≡ true
other_held number l s x y n k = ap (λ (o : Option Tree). eqb s number && is_some o) (update_apart l.reports y None x (λ q. n (sym q))) ∙ k

pub after_discard : (number : ℕ) (l : Ledger) (h : Errors) (s x e y : ℕ) (d : FrameError) (p : ℕ) → FitsStore l → l.reports y ≡ Some (leaf d p)
    → (free (discarded l y) ≡ free l + 1)
    × (y ≢ x → is_held number l s x ≡ true → Live h e → raise_cause number (discarded l y) h s x e ≡ None)
after_discard number l h s x e y d p f r =
    let more = freed l y d p f r in
    (more, λ n k v. granted number h s x e (discarded l y) (omega arith) (other_held number l s x y n k) v)

-- 1,024 reports of one frame fill a store
filled_root : (x : ℕ) → is_some (filled.reports x) ≡ true → x < 1024
filled_root x v = grind (arith, nat_tests)

filled_total : (n : ℕ) → n ≤ 1024 → total n (λ j. in_report (filled.reports j) + in_row (filled.rows j)) ≡ n
unfolding total
filled_total zero b = refl
filled_total (suc n) b =
    let a = filled_total n (omega arith) in
    let c : in_report (filled.reports n) ≡ 1 = grind (arith, nat_tests) in
    omega arith

filled_used : used filled ≡ 1024
filled_used = filled_total 1024 (omega arith)

pub filled_fits : FitsStore filled
filled_fits = record { roots = filled_root; frames = omega (arith, filled_used) }

pub filled_full : free filled ≡ 0
filled_full = omega (arith, filled_used)
