-- The children of a node.
use Rattle.std.proofs.Common.{◌≡◌, ℕ, zero, suc, ◌+◌, ◌<◌, true, false, List, [], ◌∷◌, length, length-drop, drop, refl, ap, ◌∙◌, arith}
use Rattle.std.specs.List.{AllWithin, HoldsAt}
use Rattle.std.proofs.lemmas.List.{drop-drop}
use Rattle.std.proofs.lemmas.Bool.{cond-true, cond-false}
use Rattle.nodes.specs.declared.node.Node.{Node}
use Rattle.nodes.specs.Breadth.{is_parent}
use Rattle.chains.specs.Children.{children_from, children_after}

-- where no node is a child
pub children_none : (p n : ℕ) (xs : List Node) → AllWithin (λ (x : Node). is_parent p x.parent ≡ false) xs 0 (length xs) → children_from p n xs ≡ []
children_none p n [] none = refl
children_none p n (x ∷ xs) none =
    cond-false (is_parent p x.parent) _ _ (none 0 x (omega arith) (omega arith))
    ∙ children_none p (n + 1) xs (λ k d a b. none (suc k) d (omega arith) (omega arith))

-- where the node `i` is the first that is one
pub children_first : (p n : ℕ) (xs : List Node) (i at : ℕ) → at ≡ n + i → i < length xs → HoldsAt (λ (x : Node). is_parent p x.parent ≡ true) xs i → AllWithin (λ (x : Node). is_parent p x.parent ≡ false) xs 0 i
    → children_from p n xs ≡ at ∷ children_from p (at + 1) (drop (suc i) xs)
children_first p n [] i at e lt here none = absurd (omega arith)
children_first p n (x ∷ xs) zero at e lt here none =
    let same : n ≡ at = omega arith in
    cond-true (is_parent p x.parent) _ _ (here x) ∙ ap (λ (k : ℕ). k ∷ children_from p (k + 1) xs) same
children_first p n (x ∷ xs) (suc i) at e lt here none =
    cond-false (is_parent p x.parent) _ _ (none 0 x (omega arith) (omega arith))
    ∙ children_first p (n + 1) xs i at (omega arith) (omega arith) (λ d. here d) (λ k d a b. none (suc k) d (omega arith) (omega arith))

-- the search from an index on
module _ (xs : List Node) (p from : ℕ) where
  pub no_child : AllWithin (λ (x : Node). is_parent p x.parent ≡ false) (drop from xs) 0 (length (drop from xs)) → children_after xs p from ≡ []
  no_child none = children_none p from (drop from xs) none

  pub next_child : (i : ℕ) → (i < length (drop from xs)) × HoldsAt (λ (x : Node). is_parent p x.parent ≡ true) (drop from xs) i × AllWithin (λ (x : Node). is_parent p x.parent ≡ false) (drop from xs) 0 i
      → children_after xs p from ≡ (from + i) ∷ children_after xs p (from + i + 1)
  next_child i f =
      let same : from + suc i ≡ from + i + 1 = omega arith in
      children_first p from (drop from xs) i (from + i) refl f.0 f.1 f.2
      ∙ ap (λ (ys : List Node). (from + i) ∷ children_from p (from + i + 1) ys) (drop-drop (suc i) from xs ∙ ap (λ (k : ℕ). drop k xs) same)

-- behind the last node there is none
pub none_behind : (xs : List Node) (p : ℕ) → children_after xs p (length xs) ≡ []
none_behind xs p = no_child xs p (length xs) (λ k x a b. absurd (omega (arith, length-drop (length xs) xs)))
