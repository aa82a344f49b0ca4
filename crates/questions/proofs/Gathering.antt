-- What the items of a list show to their parents, gathered from the last to the first.
use Rattle.std.proofs.Common.{◌≡◌, ◌≢◌, ℕ, ◌+◌, ◌<◌, List, ◌∷◌, map, length, get_or, drop, set, eqb, Some, None, Option, sym, ap, ◌∙◌, ap₂, subst, ⊎_elim, arith, ◌⊎◌, get_or-set_other, get_or-set_same}
use Rattle.std.proofs.lemmas.Bool.{cond-true, cond-false, eq-eqb, ne_eqb, cases_eq}
use Rattle.std.proofs.lemmas.List.{drop_more, get_or-map, length-map}
use Rattle.vocabulary.specs.declared.frame_error.FrameError.{FrameError}
use Rattle.nodes.specs.Breadth.{Item, breadth_first}
use Rattle.nodes.specs.Rows.{Rows}
use Rattle.nodes.proofs.Rebuild.{Before}
use Rattle.readings.specs.Back.{added_to, from_back}
use Rattle.readings.specs.Seen.{Seen, nothing, ◌with◌}
use Rattle.readings.proofs.Back.{back_more, back_none}
use Rattle.readings.proofs.Rebuilt.{parent_at, parents_before}

-- elements that are read as items
module _ {B C : Type 0} (item : B → Item C) (zs : List B) where
  pub first_item : (e : B) → 0 < length zs → map item zs ≡ item (get_or zs 0 e) ∷ drop 1 (map item zs)
  first_item e some =
      let n = length-map zs item in
      drop_more (map item zs) 0 (item e) (omega arith) ∙ ap (λ (x : Item C). x ∷ drop 1 (map item zs)) (get_or-map item zs 0 e (item e) some)

  -- in a breadth-first list each stands behind its parent
  pub parent_before : (r : Rows C) → map item zs ≡ breadth_first r → (i j : ℕ) (e : B) → i < length zs → (item (get_or zs i e)).parent ≡ Some j → j < i
  parent_before r is i j e lt q =
      let n = length-map zs item in
      let same = ap (λ (xs : List (Item C)). length xs) is in
      let at : get_or (breadth_first r) i (item e) ≡ item (get_or zs i e) = ap (λ (xs : List (Item C)). get_or xs i (item e)) (sym is) ∙ get_or-map item zs i e (item e) lt in
      let before = subst (Before (0 + i)) (ap (λ (x : Item C). x.parent) at ∙ q) (parent_at 0 (breadth_first r) (parents_before r) i (item e) (omega arith)) in
      omega arith

  -- a list that keeps what was gathered for each of them
  module _ {A : Type 0} (view : A → Seen FrameError) (d : A) (f : C → Seen FrameError → Seen FrameError) where
    -- what those from `n` on show
    abbrev pub shown_from : ℕ → Option ℕ → Seen FrameError
    shown_from n = from_back ◌with◌ nothing f n (drop n (map item zs))

    pub record Gathered (n : ℕ) (list : List A) : Type 0 where
      pub shows : (p : ℕ) → p < n → view (get_or list p d) ≡ shown_from n (Some p)

    pub gathered_none : (n : ℕ) (list : List A) → n ≡ length zs → ((p : ℕ) → p < n → view (get_or list p d) ≡ nothing) → Gathered n list
    gathered_none n list e none =
        let m : n ≡ length (map item zs) = let k = length-map zs item in omega arith in
        record { shows = λ p lt. none p lt ∙ sym (ap (λ (i : ℕ). shown_from i (Some p)) m ∙ back_none ◌with◌ nothing f (map item zs) (Some p)) }

    module _ (n i : ℕ) (list : List A) (next : i + 1 ≡ n) (e : B) (g : Gathered n list) (lt : i < length zs) where
      -- what the element at `i` shows
      abbrev shown : Seen FrameError
      shown = f (item (get_or zs i e)).value (shown_from (i + 1) (Some i))

      same_next : (p : ℕ) → p < i + 1 → view (get_or list p d) ≡ shown_from (i + 1) (Some p)
      same_next p less = g.shows p (omega arith) ∙ ap (λ (k : ℕ). shown_from k (Some p)) (sym next)

      step : (o p : Option ℕ) → (item (get_or zs i e)).parent ≡ o → shown_from i p ≡ added_to ◌with◌ o shown (shown_from (i + 1)) p
      step o p q =
          let fit : i < length (map item zs) = let k = length-map zs item in omega arith in
          back_more ◌with◌ nothing f (map item zs) i (item e) p fit
          ∙ ap (λ (y : Item C). added_to ◌with◌ y.parent (f y.value (shown_from (i + 1) (Some i))) (shown_from (i + 1)) p) (get_or-map item zs i e (item e) lt)
          ∙ ap (λ (k : Option ℕ). added_to ◌with◌ k shown (shown_from (i + 1)) p) q

      -- where it has no parent
      pub gathered_alone : (item (get_or zs i e)).parent ≡ None → Gathered i list
      gathered_alone q = record { shows = λ p less. same_next p (omega arith) ∙ sym (step None (Some p) q) }

      -- where it has one
      pub gathered_more : (j : ℕ) (x : A) (s : Seen FrameError) → (item (get_or zs i e)).parent ≡ Some j → j < length list
          → s ≡ f (item (get_or zs i e)).value (view (get_or list i d)) → view x ≡ (view (get_or list j d) with s) → Gathered i (set list j x)
      gathered_more j x s q there what is = record { shows = λ p less. at p less (cases_eq p j) }
        where
          mine : s ≡ shown
          mine = what ∙ ap (f (item (get_or zs i e)).value) (same_next i (omega arith))

          at : (p : ℕ) → p < i → ((p ≡ j) ⊎ (p ≢ j)) → view (get_or (set list j x) p d) ≡ shown_from i (Some p)
          at p less c =
              let before = same_next p (omega arith) in
              ⊎_elim
              (λ z. ap (λ (k : ℕ). view (get_or (set list k x) p d)) (sym z) ∙ ap view (get_or-set_same list p x d (omega arith)) ∙ is
              ∙ ap₂ ◌with◌ (ap (λ (k : ℕ). view (get_or list k d)) (sym z) ∙ before) mine
              ∙ sym (step (Some j) (Some p) q ∙ cond-true (eqb j p) _ _ (eq-eqb j p (sym z))))
              (λ z. ap view (get_or-set_other list j p x d z) ∙ before ∙ sym (step (Some j) (Some p) q ∙ cond-false (eqb j p) _ _ (ne_eqb j p (λ y. z (sym y)))))
              c
