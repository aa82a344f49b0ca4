-- A report becomes a row of one.
use Rattle.std.proofs.Common.{◌≡◌, ℕ, ◌+◌, ◌<◌, eqb, List, ◌∷◌, get_or, set, Some, None, Option, sym, refl, ap, ◌∙◌, subst, arith}
use Rattle.std.specs.Map.{update}
use Rattle.std.proofs.lemmas.List.{length-set}
use Rattle.vocabulary.specs.declared.frame_error.FrameError.{FrameError}
use Rattle.trees.specs.Numbered.{Numbered, none, node, size, tree_of}
use Rattle.trees.proofs.Numbered.{one_same}
use Rattle.layout.specs.declared.frame.Role.{Role}
use Rattle.layout.specs.declared.frame.Role.TheVariants.{Linked, Report, Row}
use Rattle.layout.specs.declared.frame.Frame.{Frame}
use Rattle.layout.specs.Layout.{blank, frame_of, Held, Block, report, row, Laid, report_at, with_role}
use Rattle.layout.specs.Reports.{reports, rows, Means}
use Rattle.layout.specs.Calls.{alone}
use Rattle.layout.proofs.Held.{held_set, stand_set, held_role}
use Rattle.layout.proofs.Told.{told}
use Rattle.layout.proofs.Means.{gone_key, added_key, found, first_below, first_once}

module _ {fs : List Frame} {head : Option ℕ} {count x : ℕ} {e : FrameError} {p : ℕ} {k : Numbered} {rest : List Block} {free : Numbered}
    (l : Laid fs head count (report x e p k ∷ rest) free) where
  pub report_below : x < 1024
  report_below = first_below l x refl

  pub report_frame : get_or fs x blank ≡ frame_of Report e p k none
  report_frame = l.stand.0.1

  pub report_is : reports fs x ≡ Some (tree_of e p k)
  report_is = found x _ _ _ (told l x).0

  pub rowed_layout : (n : ℕ) → n ≡ size k + 1 → Laid (set fs x (with_role (Row x n) (get_or fs x blank))) head count (row x e p k none ∷ rest) free
  rowed_layout n q =
      let a = l.once x report_below in
      let b = one_same x x refl in
      let role : Row x n ≡ Row x ((size k + 1) + 0) = ap (Row x) (omega arith) in
      record {
        stand = (
          subst (λ (s : Role). Held (set fs x (with_role (Row x n) (get_or fs x blank))) s (node x e p k none)) role
              (held_role fs Report (Row x n) x e p k none l.stand.0 (omega arith)),
          stand_set fs rest x _ l.stand.1 (omega arith),
        );
        spare = held_set fs Linked free x _ l.spare (omega arith);
        begins = l.begins;
        once = l.once;
        left = l.left;
        all = l.all;
        long = simp length-set l.long;
      }

  pub rowed_means : (n : ℕ) → n ≡ size k + 1 → Means (set fs x (with_role (Row x n) (get_or fs x blank))) (update eqb (reports fs) x None) (update eqb (rows fs) x (alone x (reports fs x)))
  rowed_means n q =
      let m = rowed_layout n q in
      record {
        reports = λ j. (told m j).0 ∙ gone_key j x _ _ _ (λ w. subst (λ (y : ℕ). report_at y rest ≡ None) (sym w) (first_once l x refl).0) (told l j).0;
        rows = λ j. (told m j).1 ∙ added_key j x _ _ _ _ (sym (ap (alone x) report_is)) (sym (told l j).1);
      }
