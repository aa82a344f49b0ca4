-- A row begins with the root by which it is known, and a report at its end leaves it so.
use Rattle.std.proofs.Common.{◌≡◌, ℕ, true, eqb, List, [], ◌∷◌, ◌++◌, get_or, is_some, Some, None, Option, sym, refl, ap, ◌∙◌}
use Rattle.std.specs.Map.{update}
use Rattle.std.proofs.lemmas.Map.{update-update}
use Rattle.trees.specs.Listings.{alone, joined, opened, without}
use Rattle.trees.proofs.Options.{there}
use Rattle.trees.specs.Trees.{Tree, Listing, first_root, list_of}
use Rattle.layout.specs.declared.frame.Frame.{Frame}
use Rattle.layout.specs.declared.frame.Role.{Role}
use Rattle.layout.specs.declared.frame.Role.TheVariants.{Linked, Report, Row}
use Rattle.layout.specs.Layout.{blank}
use Rattle.layout.specs.Reports.{Means, reports, rows, read_row, if_row}
use Rattle.layout.specs.Calls.{with_last}

abbrev pub Begins : ℕ → Option Listing → Type 0
Begins h None = Unit {0}
Begins h (Some []) = ⊥
Begins h (Some (x ∷ xs)) = x.0 ≡ h

pub begins : (fs : List Frame) (h : ℕ) → Begins h (rows fs h)
unfolding rows read_row
begins fs h = go (get_or fs h blank).role
  where
    go : (r : Role) → Begins h (if_row r (read_row 1024 fs (Some h)))
    go Linked = tt
    go Report = tt
    go (Row last size) = refl

-- the row, its first report and the others
pub row_parts : (fs : List Frame) (h : ℕ) → is_some (rows fs h) ≡ true → (x : ℕ × Tree) × (xs : Listing) × (rows fs h ≡ Some (x ∷ xs)) × (x.0 ≡ h)
row_parts fs h begun = go (rows fs h) refl (begins fs h) begun
  where
    go : (o : Option Listing) → rows fs h ≡ o → Begins h o → is_some o ≡ true → (x : ℕ × Tree) × (xs : Listing) × (rows fs h ≡ Some (x ∷ xs)) × (x.0 ≡ h)
    go None q b v = cc
    go (Some []) q b v = absurd b
    go (Some (x ∷ xs)) q b v = (x, xs, q, b)

module _ (fs : List Frame) (y : ℕ) (live : is_some (reports fs y) ≡ true) where
  one : (t : Tree) × (reports fs y ≡ Some t)
  one = there (reports fs y) live

  -- the report becomes a row
  pub alone_first : Some y ≡ first_root (with_last fs None y)
  alone_first = sym (ap (λ (o : Option Tree). first_root (list_of (alone y o))) one.1)

  pub alone_means : (gs : List Frame) → Means gs (update eqb (reports fs) y None) (update eqb (rows fs) y (alone y (reports fs y)))
      → Means gs (update eqb (reports fs) y None) (opened (without (rows fs) None) (with_last fs None y))
  alone_means gs m = record {
    reports = m.reports;
    rows = λ j. m.rows j ∙ ap (λ (o : Option Tree). update eqb (rows fs) y (alone y o) j) one.1
        ∙ sym (ap (λ (o : Option Tree). opened (without (rows fs) None) (list_of (alone y o)) j) one.1);
  }

  -- or the last of the row
  module _ (h : ℕ) (begun : is_some (rows fs h) ≡ true) where
    row : (x : ℕ × Tree) × (xs : Listing) × (rows fs h ≡ Some (x ∷ xs)) × (x.0 ≡ h)
    row = row_parts fs h begun

    longer : with_last fs (Some h) y ≡ row.0 ∷ (row.1 ++ (y, one.0) ∷ [])
    longer = ap (λ (o : Option Listing). list_of o ++ list_of (alone y (reports fs y))) row.2 ∙ ap (λ (o : Option Tree). (row.0 ∷ row.1) ++ list_of (alone y o)) one.1

    joins : joined (rows fs h) (alone y (reports fs y)) ≡ Some (row.0 ∷ (row.1 ++ (y, one.0) ∷ []))
    joins =
        ap (λ (o : Option Listing). joined o (alone y (reports fs y))) row.2 ∙ ap (λ (o : Option Tree). joined (Some (row.0 ∷ row.1)) (alone y o)) one.1

    pub last_first : Some h ≡ first_root (with_last fs (Some h) y)
    last_first = ap Some (sym row.3) ∙ sym (ap first_root longer)

    pub last_means : (gs : List Frame) → Means gs (update eqb (reports fs) y None) (update eqb (rows fs) h (joined (rows fs h) (alone y (reports fs y))))
        → Means gs (update eqb (reports fs) y None) (opened (without (rows fs) (Some h)) (with_last fs (Some h) y))
    last_means gs m = record {
      reports = m.reports;
      rows = λ j. m.rows j ∙ ap (λ (o : Option Listing). update eqb (rows fs) h o j) joins
          ∙ sym (update-update eqb (rows fs) h None (Some (row.0 ∷ (row.1 ++ (y, one.0) ∷ []))) j)
          ∙ ap (λ (k : ℕ). update eqb (update eqb (rows fs) h None) k (Some (row.0 ∷ (row.1 ++ (y, one.0) ∷ []))) j) (sym row.3)
          ∙ sym (ap (λ (xs : Listing). opened (without (rows fs) (Some h)) xs j) longer);
    }
