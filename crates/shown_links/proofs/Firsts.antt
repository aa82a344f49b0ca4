-- The first that is shown of those beneath a node, by the node that stands at the front.
use Rattle.std.proofs.Common.{◌≡◌, ◌≢◌, ℕ, zero, suc, ◌+◌, ◌<◌, ◌≤◌, true, false, cond, List, length, Some, None, Option, refl, ap, ◌∙◌, arith}
use Rattle.std.proofs.lemmas.Bool.{cond-true, cond-false, eqb-true, eq-eqb, ne_eqb}
use Rattle.std.proofs.lemmas.List.{drop_all, drop_more}
use Rattle.nodes.specs.declared.node.Node.{Node}
use Rattle.nodes.specs.Breadth.{is_parent}
use Rattle.nodes.specs.Check.{blank, node_at}
use Rattle.nodes.proofs.Rebuild.{Before, not_parent}
use Rattle.shown_links.specs.Linked.{plan_at}
use Rattle.shown_links.specs.Linking.{ParentsBefore, first_at, first_from, first_shown}

module _ (xs : List Node) (n : ℕ) (p : ℕ) where
  pub first_none : n ≡ length xs → first_at xs n p ≡ None
  first_none e = ap (λ (ys : List Node). first_from n ys p) (drop_all n xs (omega arith))

  first_step : n < length xs → first_at xs n p
      ≡ cond (is_parent p (node_at xs n).parent) (first_shown (plan_at xs n).marker (first_at xs (n + 1) n) n (first_at xs (n + 1) p)) (first_at xs (n + 1) p)
  first_step lt = ap (λ (ys : List Node). first_from n ys p) (drop_more xs n blank lt)

  pub first_child : n < length xs → (node_at xs n).parent ≡ Some p → first_at xs n p ≡ first_shown (plan_at xs n).marker (first_at xs (n + 1) n) n (first_at xs (n + 1) p)
  first_child lt q = first_step lt ∙ cond-true (is_parent p (node_at xs n).parent) _ _ (ap (is_parent p) q ∙ eq-eqb p p refl)

  pub first_other : n < length xs → is_parent p (node_at xs n).parent ≡ false → first_at xs n p ≡ first_at xs (n + 1) p
  first_other lt q = first_step lt ∙ cond-false (is_parent p (node_at xs n).parent) _ _ q

-- a node that has another parent, or none
pub not_child : (p q : ℕ) (o : Option ℕ) → o ≡ Some q → q ≢ p → is_parent p o ≡ false
not_child p q o e ne = ap (is_parent p) e ∙ ne_eqb q p ne

pub child_of : (p : ℕ) (o : Option ℕ) → is_parent p o ≡ true → o ≡ Some p
child_of p None q = absurd cc
child_of p (Some i) q = ap (λ (k : ℕ). Some k) (eqb-true i p q)

module _ (xs : List Node) (b : ParentsBefore xs) where
  pub behind : (i : ℕ) → i < length xs → Before i (node_at xs i).parent
  behind i lt = go (node_at xs i).parent refl
    where
      go : (o : Option ℕ) → (node_at xs i).parent ≡ o → Before i o
      go None q = tt
      go (Some p) q = b.before i p lt q

  before_less : (i p : ℕ) (o : Option ℕ) → i ≤ p → Before i o → Before p o
  before_less i p None le c = tt
  before_less i p (Some k) le c = omega arith

  -- no node up to `p` stands beneath it
  pub first_later : (d i p : ℕ) → i + d ≡ p + 1 → p < length xs → first_at xs i p ≡ first_at xs (p + 1) p
  first_later zero i p e lt = ap (λ (k : ℕ). first_at xs k p) (let q : i ≡ p + 1 = omega arith in q)
  first_later (suc d) i p e lt =
      first_other xs i p (omega arith) (not_parent p (node_at xs i).parent (before_less i p (node_at xs i).parent (omega arith) (behind i (omega arith)))) ∙ first_later d (i + 1) p (omega arith) lt
