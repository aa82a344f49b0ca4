-- The reference cases. Of the drive host's errors, gauge k has the number k, drive k 16 + k, and gate k 32 + k; `p`, `q` and
-- `r` are places.
use Rattle.std.specs.Prelude.{◌≡◌, ◌≢◌, ℕ, ◌+◌, Bool, true, false, [], ◌∷◌, map, take, swap, Some, None, Ok}
use Rattle.std.specs.Option.{option_map}
use Rattle.classes.specs.Class.{class_at}
use Rattle.vocabulary.specs.Policy.{standard}
use Rattle.vocabulary.specs.Refusal.{store_fault_number}
use Rattle.vocabulary.specs.declared.fault.StoreFault.TheVariants.{NoFrames}
use Rattle.vocabulary.specs.declared.frame_error.FrameError.{FrameError}
use Rattle.vocabulary.specs.declared.frame_error.FrameError.TheVariants.{Host}
use Rattle.vocabulary.specs.declared.policy.Pair.{Pair}
use Rattle.vocabulary.specs.declared.policy.StandardPolicy.TheVariants.{CanRetry, CanRetryLenient}
use Rattle.model.specs.Host.{Errors, Live}
use Rattle.drive_host.specs.Drive.{drive_errors}
use Rattle.trees.specs.Trees.{leaf}
use Rattle.nodes.specs.Begins.{FirstBad}
use Rattle.nodes.specs.Flattening.{flattening}
use Rattle.readings.specs.Readings.{Cause, cause, class_of, report_pairs, verdict_of}
use Rattle.ledger.specs.Causes.{is_held}
use Rattle.ledger.specs.Ledger.{Ledger, discarded, free}
use Rattle.reference_cases.specs.Hosts.{drive_alone, io_answer, io_wrapped, mark_answer, marked}
use Rattle.reference_cases.specs.Reports.{FitsStore, filled, raise_cause, raised_nodes, raised_over_new, raised_over_two}

pub record ReferenceCases : Type 0 where
  -- Gauge 7, an unexpected end of file: it has no class, and only the lenient policy lets it be tried again.
  pub drive_error_7 : (p : ℕ) → let t = leaf (Host 7) p in
      (class_of drive_errors t ≡ None)
      × (verdict_of drive_errors (standard CanRetry) t ≡ false)
      × (verdict_of drive_errors (standard CanRetryLenient) t ≡ true)
  -- Gate 2 raised over a new report of drive 1: it flattens to five nodes, level by level, sources before frames.
  pub raise_over_new : (l : Ledger) (x n p q : ℕ) →
      option_map (flattening drive_errors) (raised_over_new l x n p q) ≡ Some (raised_nodes p q)
  -- Those five with the last two exchanged: no flattening, and the node 3 is the first that shows it.
  pub exchanged : (p q : ℕ) → FirstBad drive_errors (swap (raised_nodes p q) 3 4) 3
  -- The first four of them: no flattening either, which their end shows, where the source of 17 is missing.
  pub shortened : (p q : ℕ) → FirstBad drive_errors (take 4 (raised_nodes p q)) 4
  -- Gate 2 alone: its probable cause is gauge 2, a denied permission, which gives it the class PermissionDenied.
  pub drive_error_34 : (p : ℕ) → let t = leaf (Host 34) p in
      (cause drive_errors t ≡ Host 2)
      × Cause drive_errors t (Host 2)
      × (class_of drive_errors t ≡ class_at 7)
  -- Gauge 6, a time-out, marked Cancelled: the marker's report has that class, its probable cause is gauge 6, and no policy
  -- lets it be tried again.
  pub cancelled_marker : (p : ℕ) → let h = (marked drive_alone 6 0).errors in let t = leaf (Host 48) p in
      (mark_answer drive_alone 6 0 ≡ Ok 48)
      × (class_of h t ≡ class_at 0)
      × (cause h t ≡ Host 6)
      × ((accepts : Pair → Bool) → verdict_of h accepts t ≡ false)
  -- A denied permission around gauge 0 marked Unauthenticated: of its three nodes the marker alone has a class.
  pub challenged_permission : (p : ℕ) → let m = marked drive_alone 0 6 in let h = (io_wrapped m 48 2).errors in let t = leaf (Host 112) p in
      (mark_answer drive_alone 0 6 ≡ Ok 48)
      × (io_answer m 48 2 ≡ Ok 112)
      × (map (λ (x : Pair). x.class) (report_pairs h t) ≡ None ∷ class_at 6 ∷ None ∷ [])
      × (class_of h t ≡ class_at 6)
  -- A denied permission around gauge 0 itself: its class is PermissionDenied.
  pub permission : (p : ℕ) → let h = (io_wrapped drive_alone 0 2).errors in
      (io_answer drive_alone 0 2 ≡ Ok 48)
      × (class_of h (leaf (Host 48) p) ≡ class_at 7)
  -- Gauge 0 raised over two reports of gauge 6: the probable cause is gauge 0, since neither of the two stands above the other.
  pub two_gauges : (l : Ledger) (x y n p q r : ℕ) →
      option_map (cause drive_errors) (raised_over_two l x y n p q r) ≡ Some (Host 0)
  -- No frame is free: a raise of a live error over a report is turned down with 2, and one frame is needed.
  pub full_store : (number : ℕ) (l : Ledger) (h : Errors) (s x e : ℕ) →
      free l ≡ 0 → is_held number l s x ≡ true → Live h e →
      (raise_cause number l h s x e ≡ Some (NoFrames 1))
      × (store_fault_number (NoFrames 1) ≡ 2)
  -- Another report, of one frame, is then discarded: one frame more is free, and the raise is granted.
  pub after_discard : (number : ℕ) (l : Ledger) (h : Errors) (s x e y : ℕ) (d : FrameError) (p : ℕ) →
      FitsStore l → l.reports y ≡ Some (leaf d p) →
      (free (discarded l y) ≡ free l + 1)
      × (y ≢ x → is_held number l s x ≡ true → Live h e → raise_cause number (discarded l y) h s x e ≡ None)
  -- A ledger of which both speak: 1,024 reports of one frame fill a store.
  pub filled_store : FitsStore filled × (free filled ≡ 0)
