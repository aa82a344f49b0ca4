-- The queue of a listing, node by node.
use Rattle.std.proofs.Common.{◌≡◌, ℕ, zero, suc, ◌+◌, ◌-◌, ◌<◌, ◌≤◌, List, [], ◌∷◌, ◌++◌, map, length, drop, Some, sym, refl, ap, ◌∙◌, subst, ap₂, add-one, arith}
use Rattle.std.proofs.lemmas.List.{append-nil, drop-drop}
use Rattle.nodes.specs.Breadth.{Item, Entry, item, under, below}
use Rattle.nodes.specs.Queue.{queue, weight}
use Rattle.nodes.proofs.Queue.{queue_front, weight_append, weight-length, weight-under}
use Rattle.nodes.proofs.Rebuild.{AllBefore, all_before_append, all_before_more, all_before_under}

module _ {A : Type 0} where
  -- what waits after the node `n`, the first, is listed
  abbrev pub next : ℕ → List (Entry A) → List (Entry A)
  next n [] = []
  next n (w ∷ ws) = ws ++ under (Some n) w.children

  -- what waits when so many nodes are listed
  abbrev pub waiting : List (Entry A) → ℕ → List (Entry A)
  waiting ws zero = ws
  waiting ws (suc n) = next n (waiting ws n)

  pub weightless : (ws : List (Entry A)) → weight ws ≡ 0 → ws ≡ []
  weightless [] e = refl
  weightless (w ∷ ws) e = absurd (omega arith)

  module _ (ws : List (Entry A)) (total : ℕ) where
    -- where the listing stands when `n` nodes are listed
    pub record At (n : ℕ) : Type 0 where
      pub left : ℕ
      pub sums : left + n ≡ total
      pub loaded : weight (waiting ws n) ≡ left
      pub rest : drop n (queue total 0 ws) ≡ queue left n (waiting ws n)
      pub early : AllBefore n (waiting ws n)

    -- the node that is listed next, and those that wait behind it
    pub record Turn (n : ℕ) : Type 0 where
      pub first : Entry A
      pub others : List (Entry A)
      pub left : ℕ
      pub is : waiting ws n ≡ first ∷ others
      pub sums : suc left + n ≡ total
      pub loaded : weight (first ∷ others) ≡ suc left
      pub rest : drop n (queue total 0 ws) ≡ queue (suc left) n (first ∷ others)
      pub early : AllBefore n (first ∷ others)

    turn : (n : ℕ) → n < total → At n → Turn n
    turn n lt a = go (waiting ws n) refl a.left refl
      where
        go : (q : List (Entry A)) → waiting ws n ≡ q → (l : ℕ) → a.left ≡ l → Turn n
        go q e zero f = absurd (let s = a.sums in omega arith)
        go [] e (suc l) f = absurd (let s : weight (waiting ws n) ≡ 0 = ap (λ (z : List (Entry A)). weight z) e in let b = a.loaded in omega arith)
        go (w ∷ q) e (suc l) f = record {
          first = w;
          others = q;
          left = l;
          is = e;
          sums = ap (λ (x : ℕ). x + n) (sym f) ∙ a.sums;
          loaded = ap (λ (z : List (Entry A)). weight z) (sym e) ∙ a.loaded ∙ f;
          rest = a.rest ∙ ap₂ (λ (x : ℕ) (z : List (Entry A)). queue x n z) f e;
          early = subst (AllBefore n) e a.early;
        }

    module _ (n : ℕ) (t : Turn n) where
      beneath : List (Entry A)
      beneath = under (Some n) t.first.children

      pub after : waiting ws (suc n) ≡ t.others ++ under (Some n) t.first.children
      after = ap (next n) t.is

      at_more : At (suc n)
      unfolding queue beneath
      at_more =
          let a = weight_append t.others beneath in
          let b = weight-under (Some n) t.first.children in
          let c : weight (waiting ws (suc n)) ≡ weight (t.others ++ beneath) = ap (λ (z : List (Entry A)). weight z) after in
          let l = t.loaded in
          let s = t.sums in
          record {
            left = t.left;
            sums = omega arith;
            loaded = omega arith;
            rest = ap (λ (x : ℕ). drop x (queue total 0 ws)) (sym (add-one n)) ∙ sym (drop-drop 1 n (queue total 0 ws)) ∙ ap (drop 1) t.rest
                ∙ ap₂ (λ (x : ℕ) (z : List (Entry A)). queue t.left x z) (add-one n) (sym after);
            early = subst (λ (x : ℕ). AllBefore x (waiting ws (suc n))) (add-one n)
                (subst (AllBefore (n + 1)) (sym after) (all_before_append (n + 1) t.others beneath (all_before_more n t.others t.early.1) (all_before_under n t.first.children)));
          }

    module _ (all : weight ws ≡ total) (roots : AllBefore 0 ws) where
      pub at : (n : ℕ) → n ≤ total → At n
      at zero le = record { left = total; sums = omega arith; loaded = all; rest = refl; early = roots }
      at (suc n) le = at_more n (turn n (omega arith) (at n (omega arith)))

      pub turn_at : (n : ℕ) → n < total → Turn n
      turn_at n lt = turn n lt (at n (omega arith))

    -- those that wait are listed next
    pub record Ahead (n : ℕ) : Type 0 where
      pub tail : List (Item A)
      pub lists : drop n (queue total 0 ws) ≡ map item (waiting ws n) ++ tail

    pub ahead : (n : ℕ) → At n → Ahead n
    ahead n a =
        let l = weight-length (waiting ws n) in
        let b = a.loaded in
        let f : ℕ = a.left - length (waiting ws n) in
        let e : a.left ≡ length (waiting ws n) + f = omega arith in
        record {
          tail = queue f (n + length (waiting ws n)) ([] ++ below n (waiting ws n));
          lists = a.rest ∙ ap₂ (λ (x : ℕ) (z : List (Entry A)). queue x n z) e (sym (append-nil (waiting ws n))) ∙ queue_front f n (waiting ws n) [];
        }
