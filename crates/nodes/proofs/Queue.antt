-- Listing level by level is listing by a queue.
use Rattle.std.proofs.Common.{◌≡◌, ℕ, zero, suc, ◌+◌, ◌≤◌, List, [], ◌∷◌, ◌++◌, map, length, Some, None, Option, sym, refl, ap, ◌∙◌, ap₂, append_assoc, arith}
use Rattle.std.proofs.lemmas.List.{append-nil}
use Rattle.nodes.specs.Rows.{Rows, none, node, count}
use Rattle.nodes.specs.Breadth.{Item, Entry, item, under, below, levels, breadth_first}
use Rattle.nodes.specs.Queue.{queue, weight}

module _ {A : Type 0} where
  pub weight_append : (q r : List (Entry A)) → weight (q ++ r) ≡ weight q + weight r
  weight_append [] r = omega arith
  weight_append (w ∷ q) r = let h = weight_append q r in omega arith

  pub weight-under : (o : Option ℕ) (r : Rows A) → weight (under o r) ≡ count r
  weight-under o none = refl
  weight-under o (node v c r) = let h = weight-under o r in omega arith

  pub weight-length : (ws : List (Entry A)) → length ws ≤ weight ws
  weight-length [] = omega arith
  weight-length (w ∷ ws) = let h = weight-length ws in omega arith

  pub weight-below : (n : ℕ) (ws : List (Entry A)) → length ws + weight (below n ws) ≡ weight ws
  weight-below n [] = refl
  weight-below n (w ∷ ws) =
      let a = weight_append (under (Some n) w.children) (below (n + 1) ws) in
      let b = weight-under (Some n) w.children in
      let c = weight-below (n + 1) ws in
      omega arith

  -- the front of a queue is listed, and the level below it waits behind the rest
  pub queue_front : (f n : ℕ) (q r : List (Entry A)) → queue (length q + f) n (q ++ r) ≡ map item q ++ queue f (n + length q) (r ++ below n q)
  unfolding queue
  queue_front f n [] r =
      let a : 0 + f ≡ f = omega arith in
      let b : n ≡ n + 0 = omega arith in
      ap₂ (λ (x y : ℕ). queue x y r) a b ∙ ap (queue f (n + 0)) (sym (append-nil r))
  queue_front f n (w ∷ q) r =
      let s : suc (length q + f) ≡ length (w ∷ q) + f = omega arith in
      let m : (n + 1) + length q ≡ n + length (w ∷ q) = omega arith in
      ap (λ (a : ℕ). queue a n (w ∷ (q ++ r))) (sym s)
      ∙ ap (λ (z : List (Entry A)). item w ∷ queue (length q + f) (n + 1) z) (append_assoc q r (under (Some n) w.children))
      ∙ ap (λ (z : List (Item A)). item w ∷ z) (queue_front f (n + 1) q (r ++ under (Some n) w.children))
      ∙ ap₂ (λ (a : ℕ) (z : List (Entry A)). item w ∷ (map item q ++ queue f a z)) m (append_assoc r (under (Some n) w.children) (below (n + 1) q))

  queue-none : (f n : ℕ) → queue {A = A} f n [] ≡ []
  unfolding queue
  queue-none zero n = refl
  queue-none (suc f) n = refl

  pub levels-queue : (d n : ℕ) (ws : List (Entry A)) → weight ws ≤ d → levels d n ws ≡ queue (weight ws) n ws
  unfolding levels queue
  levels-queue zero n [] le = refl
  levels-queue zero n (w ∷ ws) le = absurd (omega arith)
  levels-queue (suc d) n [] le = levels-queue d (n + 0) [] (omega arith) ∙ sym (queue-none 0 n)
  levels-queue (suc d) n (w ∷ ws) le =
      let b = weight-below n (w ∷ ws) in
      ap (λ (z : List (Item A)). map item (w ∷ ws) ++ z) (levels-queue d (n + length (w ∷ ws)) (below n (w ∷ ws)) (omega arith))
      ∙ sym (queue_front (weight (below n (w ∷ ws))) n (w ∷ ws) [])
      ∙ ap₂ (λ (a : ℕ) (z : List (Entry A)). queue a n z) b (append-nil (w ∷ ws))

  pub breadth_queue : (r : Rows A) → breadth_first r ≡ queue (count r) 0 (under None r)
  unfolding breadth_first
  breadth_queue r =
      let w = weight-under None r in
      levels-queue (count r) 0 (under None r) (omega arith) ∙ ap (λ (a : ℕ). queue a 0 (under None r)) w
