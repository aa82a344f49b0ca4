-- Each node of a breadth-first list stands behind its parent.
use Rattle.std.proofs.Common.{◌≡◌, ℕ, zero, suc, ◌+◌, ◌<◌, List, [], ◌∷◌, ◌++◌, length, get_or, Some, None, sym, subst, arith}
use Rattle.nodes.specs.Rows.{Rows, count}
use Rattle.nodes.specs.Breadth.{Item, Entry, under, breadth_first}
use Rattle.nodes.specs.Queue.{queue}
use Rattle.nodes.proofs.Queue.{breadth_queue}
use Rattle.nodes.proofs.Rebuild.{Before, AllBefore, all_before_more, all_before_append, all_before_under, all_before_roots}

-- the parents of listed nodes stand before them; the first has the index `n`
abbrev pub ParentsBefore : {A : Type 0} → ℕ → List (Item A) → Type 0
ParentsBefore n [] = Unit {0}
ParentsBefore n (x ∷ xs) = Before n x.parent × ParentsBefore (n + 1) xs

module _ {A : Type 0} where
  queue_parents : (f n : ℕ) (ws : List (Entry A)) → AllBefore n ws → ParentsBefore n (queue f n ws)
  unfolding queue
  queue_parents zero n ws b = tt
  queue_parents (suc f) n [] b = tt
  queue_parents (suc f) n (w ∷ ws) b =
      (b.0, queue_parents f (n + 1) (ws ++ under (Some n) w.children) (all_before_append (n + 1) ws (under (Some n) w.children) (all_before_more n ws b.1) (all_before_under n w.children)))

  -- each node of the list stands behind its parent
  pub parents_before : (r : Rows A) → ParentsBefore 0 (breadth_first r)
  parents_before r = subst (ParentsBefore 0) (sym (breadth_queue r)) (queue_parents (count r) 0 (under None r) (all_before_roots r))

  -- the same at an index
  pub parent_at : (n : ℕ) (xs : List (Item A)) → ParentsBefore n xs → (i : ℕ) (d : Item A) → i < length xs → Before (n + i) (get_or xs i d).parent
  parent_at n [] b i d lt = absurd (omega arith)
  parent_at n (x ∷ xs) b zero d lt = subst (λ (k : ℕ). Before k x.parent) (let e : n ≡ n + 0 = omega arith in e) b.0
  parent_at n (x ∷ xs) b (suc i) d lt = subst (λ (k : ℕ). Before k (get_or xs i d).parent) (let e : (n + 1) + i ≡ n + suc i = omega arith in e) (parent_at (n + 1) xs b.1 i d (omega arith))
