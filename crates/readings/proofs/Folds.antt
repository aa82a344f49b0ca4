-- A fold over the nodes of a row does not depend on the order in which they are listed.
use Rattle.std.proofs.Common.{◌≡◌, ℕ, zero, suc, ◌+◌, ◌≤◌, List, [], ◌∷◌, ◌++◌, Some, None, Option, sym, refl, ap, ◌∙◌, arith}
use Rattle.nodes.specs.Rows.{Rows, none, node, ◌beside◌, count}
use Rattle.nodes.specs.Breadth.{Item, Entry, under, breadth_first}
use Rattle.nodes.specs.Queue.{queue, weight}
use Rattle.nodes.proofs.Queue.{weight_append, weight-under, breadth_queue}
use Rattle.readings.specs.Folds.{CommutativeMonoid, folded, gathered, summed}

module _ {M : Type 0} (op : M → M → M) (unit : M) (c : CommutativeMonoid op unit) where
  -- the unit on the right
  pub right : (a : M) → op a unit ≡ a
  right a = c.commutes a unit ∙ c.unit_left a

  -- a list after another
  pub folded_append : {A : Type 0} (f : A → M) (xs ys : List A) → folded op unit f (xs ++ ys) ≡ op (folded op unit f xs) (folded op unit f ys)
  folded_append f [] ys = sym (c.unit_left (folded op unit f ys))
  folded_append f (x ∷ xs) ys = ap (op (f x)) (folded_append f xs ys) ∙ sym (c.associates (f x) (folded op unit f xs) (folded op unit f ys))

  -- a row beside another
  pub gathered_beside : {A : Type 0} (f : A → M → M) (r s : Rows A) → gathered op unit f (r beside s) ≡ op (gathered op unit f r) (gathered op unit f s)
  gathered_beside f none s = sym (c.unit_left (gathered op unit f s))
  gathered_beside f (node v k r) s =
      ap (op (f v (gathered op unit f k))) (gathered_beside f r s)
      ∙ sym (c.associates (f v (gathered op unit f k)) (gathered op unit f r) (gathered op unit f s))

-- what an entry comes to
abbrev pub entry_value : {A M : Type 0} → (M → M → M) → M → (A → M → M) → Entry A → M
entry_value op unit f w = f w.value (gathered op unit f w.children)

-- the nodes of a row come to what the row does
pub under-gathered : {A M : Type 0} (op : M → M → M) (unit : M) (f : A → M → M) (o : Option ℕ) (r : Rows A) → folded op unit (entry_value op unit f) (under o r) ≡ gathered op unit f r
under-gathered op unit f o none = refl
under-gathered op unit f o (node v c r) = ap (op (f v (gathered op unit f c))) (under-gathered op unit f o r)

module _ {A M : Type 0} (op : M → M → M) (unit : M) (c : CommutativeMonoid op unit) (f : A → M) where
  -- the nodes that a queue lists come to what its entries do
  queue-folded : (n i : ℕ) (ws : List (Entry A)) → weight ws ≤ n
      → folded op unit (λ (x : Item A). f x.value) (queue n i ws) ≡ folded op unit (entry_value op unit (λ v m. op (f v) m)) ws
  unfolding queue
  queue-folded zero i [] le = refl
  queue-folded zero i (w ∷ ws) le = absurd (omega arith)
  queue-folded (suc n) i [] le = refl
  queue-folded (suc n) i (w ∷ ws) le =
      let g : A → M → M = λ v m. op (f v) m in
      let s : M = folded op unit (entry_value op unit g) ws in
      let k : M = gathered op unit g w.children in
      let a = weight_append ws (under (Some i) w.children) in
      let b = weight-under (Some i) w.children in
      ap (op (f w.value))
      (queue-folded n (i + 1) (ws ++ under (Some i) w.children) (omega arith)
      ∙ folded_append op unit c (entry_value op unit g) ws (under (Some i) w.children)
      ∙ ap (op s) (under-gathered op unit g (Some i) w.children)
      ∙ c.commutes s k)
      ∙ sym (c.associates (f w.value) k s)

  -- breadth-first or by the structure
  pub breadth_folded : (r : Rows A) → folded op unit (λ (x : Item A). f x.value) (breadth_first r) ≡ summed op unit f r
  breadth_folded r =
      let b = weight-under None r in
      ap (folded op unit (λ (x : Item A). f x.value)) (breadth_queue r)
      ∙ queue-folded (count r) 0 (under None r) (omega arith)
      ∙ under-gathered op unit (λ v m. op (f v) m) None r
