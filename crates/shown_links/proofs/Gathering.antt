-- The turns of the way from the last node to the first.
use Rattle.std.proofs.Common.{◌≡◌, ◌≢◌, ℕ, ◌+◌, ◌<◌, ◌≤◌, Bool, ◌⊎◌, inl, inr, List, map, length, Some, None, Option, sym, refl, ap, ◌∙◌, ap₂, ⊎_elim, arith}
use Rattle.std.proofs.lemmas.Bool.{cases_eq}
use Rattle.nodes.specs.declared.node.Node.{Node}
use Rattle.nodes.specs.Breadth.{is_parent}
use Rattle.nodes.specs.Check.{node_at}
use Rattle.shown_links.specs.Linked.{plan_at}
use Rattle.shown_links.specs.Linking.{Gathered, Unlinked, first_at, first_shown, unlinked}
use Rattle.shown_links.proofs.Kept.{same_marker, same_parent}
use Rattle.shown_links.proofs.Firsts.{first_child, first_none, first_other, not_child}

-- a list whose nodes have no links
pub gathered_none : (xs : List Node) → Unlinked xs → (n : ℕ) → n ≡ length xs → 0 < n → Gathered xs xs n
gathered_none xs bare n e low = record {
  same = refl;
  low = low;
  first = λ p lt. bare.first p ∙ sym (first_none xs n p e);
  next = λ i p le lt q. absurd (omega arith);
  rest = λ i lt. bare.next i;
}

module _ (before now : List Node) (n : ℕ) (v : Gathered before now n) (i : ℕ) (is : i + 1 ≡ n) (lt : i < length before) (low : 0 < i) where
  first_now : (p : ℕ) → p < length before → (plan_at now p).first ≡ first_at before (i + 1) p
  first_now p less = v.first p less ∙ ap (λ (k : ℕ). first_at before k p) (sym is)

  parent_now : (o : Option ℕ) → (node_at now i).parent ≡ o → (node_at before i).parent ≡ o
  parent_now o q = sym (same_parent before now v.same i) ∙ q

  -- a node with no parent
  pub gathered_alone : (node_at now i).parent ≡ None → Gathered before now i
  gathered_alone q = record {
    same = v.same;
    low = low;
    first = λ p less. first_now p less ∙ sym (first_other before i p lt (ap (is_parent p) (parent_now None q)));
    next = λ j p le less k. later j p less k (cases_eq j i) le;
    rest = λ j less. v.rest j (omega arith);
  }
    where
      later : (j p : ℕ) → j < length before → (node_at before j).parent ≡ Some p → (j ≡ i) ⊎ (j ≢ i) → i ≤ j → (plan_at now j).next ≡ first_at before (j + 1) p
      later j p less k (inl e) le = let r : None ≡ Some p = sym (parent_now None q) ∙ ap (λ (a : ℕ). (node_at before a).parent) (sym e) ∙ k in absurd cc
      later j p less k (inr e) le = v.next j p (omega arith) less k

  -- a node with a parent
  module _ (p : ℕ) (parent : (node_at now i).parent ≡ Some p) (less : p < i) (after : List Node) (kept : map unlinked after ≡ map unlinked now)
      (first : (plan_at after p).first ≡ first_shown (plan_at now i).marker (plan_at now i).first i (plan_at now p).first)
      (other_firsts : (j : ℕ) → j ≢ p → (plan_at after j).first ≡ (plan_at now j).first)
      (next : (plan_at after i).next ≡ (plan_at now p).first) (other_nexts : (j : ℕ) → j ≢ i → (plan_at after j).next ≡ (plan_at now j).next) where
    first_after : (plan_at after p).first ≡ first_at before i p
    first_after =
        first
        ∙ ap (λ (b : Bool). first_shown b (plan_at now i).first i (plan_at now p).first) (same_marker before now v.same i)
        ∙ ap₂ (λ (a b : Option ℕ). first_shown (plan_at before i).marker a i b) (first_now i lt) (first_now p (omega arith))
        ∙ sym (first_child before i p lt (parent_now (Some p) parent))

    other : (q : ℕ) → q ≢ p → first_at before (i + 1) q ≡ first_at before i q
    other q ne = sym (first_other before i q lt (not_child q p (node_at before i).parent (parent_now (Some p) parent) (λ e. ne (sym e))))

    same_one : (j q : ℕ) → j ≡ i → (node_at before j).parent ≡ Some q → p ≡ q
    same_one j q e k = let r : Some p ≡ Some q = sym (parent_now (Some p) parent) ∙ ap (λ (a : ℕ). (node_at before a).parent) (sym e) ∙ k in cc

    pub gathered_more : Gathered before after i
    gathered_more = record {
      same = kept ∙ v.same;
      low = low;
      first = λ q fit. ⊎_elim
          (λ e. ap (λ (k : ℕ). (plan_at after k).first) e ∙ first_after ∙ ap (first_at before i) (sym e))
          (λ e. other_firsts q e ∙ first_now q fit ∙ other q e) (cases_eq q p);
      next = λ j q le fit k. ⊎_elim
          (λ e. ap (λ (a : ℕ). (plan_at after a).next) e ∙ next ∙ first_now p (omega arith) ∙ ap₂ (first_at before) (ap (λ (a : ℕ). a + 1) (sym e)) (same_one j q e k))
          (λ e. other_nexts j e ∙ v.next j q (omega arith) fit k) (cases_eq j i);
      rest = λ j fit. other_nexts j (λ e. omega arith) ∙ v.rest j (omega arith);
    }
