-- The fold of a list from its back is the fold of the row that was listed.
use Rattle.std.proofs.Common.{◌≡◌, ℕ, ◌+◌, ◌<◌, Bool, true, false, cond, eqb, List, [], ◌∷◌, length, get_or, drop, Some, None, Option, sym, refl, ap, ◌∙◌, ap₂, arith}
use Rattle.std.proofs.lemmas.List.{drop_more, drop_all}
use Rattle.std.proofs.lemmas.Bool.{eqb-true, ne_eqb}
use Rattle.nodes.specs.Rows.{Rows, none, node}
use Rattle.nodes.specs.Breadth.{Item, Entry, under, breadth_first, is_parent, children_at, others, rebuild}
use Rattle.nodes.proofs.Rebuild.{Before, before_more, undo_row}
use Rattle.readings.specs.Folds.{CommutativeMonoid, gathered}
use Rattle.readings.specs.Back.{same_parent, added_to, from_back}
use Rattle.readings.proofs.Folds.{entry_value}

-- the value of the first entry, or another
abbrev first_value : {A : Type 0} → A → List (Entry A) → A
first_value d [] = d
first_value d (w ∷ ws) = w.value

-- the children of the first entry
abbrev first_children : {A : Type 0} → List (Entry A) → Rows A
first_children [] = none
first_children (w ∷ ws) = w.children

module _ {A M : Type 0} (op : M → M → M) (unit : M) (f : A → M → M) where
  -- what the entries with one parent come to
  abbrev pub at_parent : Option ℕ → List (Entry A) → M
  at_parent o [] = unit
  at_parent o (w ∷ ws) = cond (same_parent w.parent o) (op (entry_value op unit f w) (at_parent o ws)) (at_parent o ws)

  children_are : (n : ℕ) (ws : List (Entry A)) → gathered op unit f (children_at n ws) ≡ at_parent (Some n) ws
  children_are n [] = refl
  children_are n (w ∷ ws) = go w.parent (children_are n ws)
    where
      pick : (b : Bool) → gathered op unit f (children_at n ws) ≡ at_parent (Some n) ws
          → gathered op unit f (cond b (node w.value w.children (children_at n ws)) (children_at n ws)) ≡ cond b (op (entry_value op unit f w) (at_parent (Some n) ws)) (at_parent (Some n) ws)
      pick true q = ap (op (entry_value op unit f w)) q
      pick false q = q

      go : (o : Option ℕ) → gathered op unit f (children_at n ws) ≡ at_parent (Some n) ws
          → gathered op unit f (cond (is_parent n o) (node w.value w.children (children_at n ws)) (children_at n ws)) ≡ cond (same_parent o (Some n)) (op (entry_value op unit f w) (at_parent (Some n) ws)) (at_parent (Some n) ws)
      go None q = q
      go (Some i) q = pick (eqb i n) q

  -- a parent that stands before is not `n`
  apart : (n : ℕ) (o p : Option ℕ) → Before n p → is_parent n o ≡ true → same_parent o p ≡ false
  apart n None p b q = absurd (cc)
  apart n (Some i) None b q = refl
  apart n (Some i) (Some j) b q = let e = eqb-true i n q in ne_eqb i j (λ z. omega arith)

  others_are : (n : ℕ) (o : Option ℕ) → Before n o → (ws : List (Entry A)) → at_parent o (others n ws) ≡ at_parent o ws
  others_are n o b [] = refl
  others_are n o b (w ∷ ws) = pick (is_parent n w.parent) refl (others_are n o b ws)
    where
      pick : (t : Bool) → is_parent n w.parent ≡ t → at_parent o (others n ws) ≡ at_parent o ws
          → at_parent o (cond t (others n ws) (w ∷ others n ws)) ≡ cond (same_parent w.parent o) (op (entry_value op unit f w) (at_parent o ws)) (at_parent o ws)
      pick true q h = h ∙ ap (λ (t : Bool). cond t (op (entry_value op unit f w) (at_parent o ws)) (at_parent o ws)) (sym (apart n w.parent o b q))
      pick false q h = ap (λ (m : M). cond (same_parent w.parent o) (op (entry_value op unit f w) m) m) h

  roots_are : (r : Rows A) → at_parent None (under None r) ≡ gathered op unit f r
  roots_are none = refl
  roots_are (node v c r) = ap (op (f v (gathered op unit f c))) (roots_are r)

  -- one item more, going down from the end of a list
  pub back_more : (xs : List (Item A)) (i : ℕ) (d : Item A) (p : Option ℕ) → i < length xs → from_back op unit f i (drop i xs) p
      ≡ added_to op (get_or xs i d).parent (f (get_or xs i d).value (from_back op unit f (i + 1) (drop (i + 1) xs) (Some i))) (from_back op unit f (i + 1) (drop (i + 1) xs)) p
  back_more xs i d p lt = ap (λ (ys : List (Item A)). from_back op unit f i ys p) (drop_more xs i d lt)

  -- nothing is gathered behind the end
  pub back_none : (xs : List (Item A)) (p : Option ℕ) → from_back op unit f (length xs) (drop (length xs) xs) p ≡ unit
  back_none xs p = ap (λ (ys : List (Item A)). from_back op unit f (length xs) ys p) (drop_all (length xs) xs (omega arith))

  module _ (c : CommutativeMonoid op unit) where
    back_rebuild : (n : ℕ) (xs : List (Item A)) (o : Option ℕ) → Before n o → from_back op unit f n xs o ≡ at_parent o (rebuild n xs)
    back_rebuild n [] o b = refl
    back_rebuild n (x ∷ xs) o b =
        let ws = rebuild (n + 1) xs in
        let mine : from_back op unit f (n + 1) xs (Some n) ≡ gathered op unit f (children_at n ws) = back_rebuild (n + 1) xs (Some n) (omega arith) ∙ sym (children_are n ws) in
        let rest : from_back op unit f (n + 1) xs o ≡ at_parent o (others n ws) = back_rebuild (n + 1) xs o (before_more n o b) ∙ sym (others_are n o b ws) in
        ap₂ (λ (v m : M). cond (same_parent x.parent o) (op m v) m) (ap (f x.value) mine) rest
        ∙ ap (λ (m : M). cond (same_parent x.parent o) m (at_parent o (others n ws))) (c.commutes (at_parent o (others n ws)) (f x.value (gathered op unit f (children_at n ws))))

    -- the fold of the row
    pub back_breadth : (r : Rows A) → from_back op unit f 0 (breadth_first r) None ≡ gathered op unit f r
    back_breadth r = back_rebuild 0 (breadth_first r) None tt ∙ ap (at_parent None) (undo_row r) ∙ roots_are r

    -- under one root its children are gathered
    pub back_root : (v : A) (k : Rows A) (x : Item A) (xs : List (Item A)) → breadth_first (node v k none) ≡ x ∷ xs → (x.value ≡ v) × (from_back op unit f 1 xs (Some 0) ≡ gathered op unit f k)
    back_root v k x xs q =
        let e : rebuild 0 (x ∷ xs) ≡ under None (node v k none) = sym (ap (rebuild 0) q) ∙ undo_row (node v k none) in
        (ap (first_value v) e, back_rebuild 1 xs (Some 0) (omega arith) ∙ sym (children_are 0 (rebuild 1 xs)) ∙ ap (λ (ws : List (Entry A)). gathered op unit f (first_children ws)) e)
