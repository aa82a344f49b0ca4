-- A report put first under another.
use Rattle.std.proofs.Common.{◌≡◌, ℕ, true, cond, eqb, List, [], ◌∷◌, is_some, Some, None, Option, sym, refl, ap, ◌∙◌, ap₂}
use Rattle.std.specs.Map.{update}
use Rattle.std.proofs.lemmas.Map.{update_here, update_apart}
use Rattle.std.proofs.lemmas.Bool.{eq-eqb, cond-true}
use Rattle.trees.specs.Listings.{alone, bare, children_of, opened, under}
use Rattle.trees.specs.Trees.{Forest, empty, tree, Tree, leaf, Listing, forest, among, first_root, list_of}
use Rattle.layout.specs.declared.frame.Frame.{Frame}
use Rattle.layout.specs.Reports.{Means, reports, rows}
use Rattle.layout.specs.Calls.{Drained, taken}
use Rattle.rebuilding.specs.Steps.{with_first}
use Rattle.trees.proofs.Options.{there}
use Rattle.rebuilding.proofs.Beside.{updated, closed, no_row}

-- the children of the other were drained, and come back behind it
module _ (before mid after last : List Frame) (x y : ℕ) (live : is_some (reports before x) ≡ true) (lives : is_some (reports before y) ≡ true) (apart : x ≡ y → ⊥) where
  t : (t : Tree) × (reports before x ≡ Some t)
  t = there (reports before x) live

  u : (u : Tree) × (reports before y ≡ Some u)
  u = there (reports before y) lives

  module _ (head : ℕ) (d : Drained before mid x (Some head))
      (j : Means after (update eqb (update eqb (reports mid) y None) x (under (reports mid x) (alone y (reports mid y)))) (rows mid))
      (m : Means last (update eqb (reports after) x (under (reports after x) (rows after head))) (update eqb (rows after) head None)) where
    row : (r : Listing) × (rows mid head ≡ Some r)
    row = go (rows mid head) refl
      where
        go : (o : Option Listing) → rows mid head ≡ o → (r : Listing) × (rows mid head ≡ Some r)
        go None q = absurd (let a : Some head ≡ None = d.first ∙ ap (λ (o : Option Listing). first_root (list_of o)) q in cc)
        go (Some r) q = (r, q)

    listed : taken mid (Some head) ≡ row.0
    listed = ap list_of row.1

    children : forest row.0 ≡ t.0.children
    children = ap forest (sym listed) ∙ d.children ∙ ap children_of t.1

    drained_x : reports mid x ≡ Some (leaf t.0.error t.0.place)
    drained_x = d.means.reports x ∙ update_here (reports before) x (bare (reports before x)) ∙ ap bare t.1

    drained_other : (k : ℕ) → (k ≡ x → ⊥) → reports mid k ≡ reports before k
    drained_other k n = d.means.reports k ∙ update_apart (reports before) x (bare (reports before x)) k n

    joined_x : reports after x ≡ Some (record { error = t.0.error; place = t.0.place; children = tree u.0.error u.0.place u.0.children empty })
    joined_x =
        j.reports x ∙ update_here (update eqb (reports mid) y None) x _
        ∙ ap₂ (λ (a b : Option Tree). under a (alone y b)) drained_x (drained_other y (λ e. apart (sym e)) ∙ u.1)

    here : reports last x ≡ with_first (reports before x) (reports before y)
    here =
        m.reports x ∙ update_here (reports after) x _
        ∙ ap₂ under joined_x (j.rows head ∙ row.1)
        ∙ ap (λ (f : Forest). Some (record { error = t.0.error; place = t.0.place; children = tree u.0.error u.0.place u.0.children f })) children
        ∙ sym (ap₂ with_first t.1 u.1)

    other : (k : ℕ) → (k ≡ x → ⊥) → reports last k ≡ update eqb (reports before) y None k
    other k n =
        m.reports k ∙ update_apart (reports after) x _ k n
        ∙ j.reports k ∙ update_apart (update eqb (reports mid) y None) x _ k n
        ∙ ap (λ (o : Option Tree). cond (eqb y k) None o) (drained_other k n)

    is_row : (k : ℕ) → rows after k ≡ update eqb (rows before) head (Some row.0) k
    is_row k = j.rows k ∙ d.means.rows k ∙ go row.0 (ap (λ (r : Listing). opened (rows before) r k) listed) (d.first ∙ ap first_root listed)
      where
        go : (r : Listing) → opened (rows before) (taken mid (Some head)) k ≡ opened (rows before) r k → Some head ≡ first_root r → opened (rows before) (taken mid (Some head)) k ≡ update eqb (rows before) head (Some r) k
        go [] q e = absurd (cc)
        go (z ∷ zs) q e = let same : head ≡ z.0 = cc in q ∙ ap (λ (n : ℕ). update eqb (rows before) n (Some (z ∷ zs)) k) (sym same)

    first_among : among head (taken mid (Some head)) ≡ true
    first_among = go (taken mid (Some head)) d.first
      where
        go : (r : Listing) → Some head ≡ first_root r → among head r ≡ true
        go [] e = absurd (cc)
        go (z ∷ zs) e = let same : head ≡ z.0 = cc in cond-true (eqb head z.0) true (among head zs) (eq-eqb head z.0 same)

    pub joined_first : Means last (update eqb (update eqb (reports before) y None) x (with_first (reports before x) (reports before y))) (rows before)
    joined_first = record {
      reports = λ k. updated (update eqb (reports before) y None) x _ k (reports last k) (λ e. ap (reports last) e ∙ here) (other k);
      rows = λ k. m.rows k ∙ closed (rows before) (rows after) head (Some row.0) (no_row before head (d.fresh head first_among)) is_row k;
    }
