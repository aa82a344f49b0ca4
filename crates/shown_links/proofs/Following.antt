-- The turns of the way from the first node to the last.
use Rattle.std.proofs.Common.{◌≡◌, ◌≢◌, ℕ, ◌+◌, ◌<◌, ◌⊎◌, inl, inr, Bool, cond, ⊎_elim, List, map, length, Some, None, Option, sym, refl, ap, ◌∙◌, ap₂, arith}
use Rattle.std.proofs.lemmas.Bool.{cases_eq}
use Rattle.std.specs.Option.{option_or}
use Rattle.nodes.specs.declared.node.Node.{Node}
use Rattle.nodes.specs.Check.{node_at}
use Rattle.shown_links.specs.Linked.{plan_at}
use Rattle.shown_links.specs.Linking.{Followed, ParentsBefore, follower, unlinked}
use Rattle.shown_links.proofs.Kept.{same_marker, same_parent}

pub followed_none : (xs : List Node) → ParentsBefore xs → 0 < length xs → Followed xs xs 1
followed_none xs b some = record {
  same = refl;
  first = λ i. refl;
  next = λ i p lt q. let k = b.before i p (omega arith) q in absurd (omega arith);
  root = λ i q. refl;
  rest = λ i le. refl;
}

module _ (before now : List Node) (n : ℕ) (v : Followed before now n) (b : ParentsBefore before) (lt : n < length before) where
  parent_now : (o : Option ℕ) → (node_at now n).parent ≡ o → (node_at before n).parent ≡ o
  parent_now o q = sym (same_parent before now v.same n) ∙ q

  -- a node has one parent, or none
  parents_alike : (o p : Option ℕ) (i : ℕ) → (node_at now n).parent ≡ o → i ≡ n → (node_at before i).parent ≡ p → o ≡ p
  parents_alike o p i q e k = sym (parent_now o q) ∙ ap (λ (a : ℕ). (node_at before a).parent) (sym e) ∙ k

  -- a node with no parent
  pub followed_alone : (node_at now n).parent ≡ None → Followed before now (n + 1)
  followed_alone q = record {
    same = v.same;
    first = v.first;
    next = λ i p less k. earlier i p k less (cases_eq i n);
    root = v.root;
    rest = λ i le. v.rest i (omega arith);
  }
    where
      earlier : (i p : ℕ) → (node_at before i).parent ≡ Some p → i < n + 1 → (i ≡ n) ⊎ (i ≢ n) → (plan_at now i).next ≡ option_or (plan_at before i).next (follower (plan_at now p))
      earlier i p k less (inl e) = let r : None ≡ Some p = parents_alike None (Some p) i q e k in absurd cc
      earlier i p k less (inr e) = v.next i p (omega arith) k

  -- a node with a parent
  module _ (p : ℕ) (parent : (node_at now n).parent ≡ Some p) (after : List Node) (kept : map unlinked after ≡ map unlinked now)
      (firsts : (i : ℕ) → (plan_at after i).first ≡ (plan_at now i).first)
      (next : (plan_at after n).next ≡ option_or (plan_at now n).next (follower (plan_at now p)))
      (other_nexts : (i : ℕ) → i ≢ n → (plan_at after i).next ≡ (plan_at now i).next) where
    -- the follower of a parent stays
    same_follower : (q : ℕ) → q < n → follower (plan_at now q) ≡ follower (plan_at after q)
    same_follower q less = ap₂ (λ (m : Bool) (o : Option ℕ). cond m o None) (sym (same_marker now after kept q)) (sym (other_nexts q (λ e. omega arith)))

    follows : (i q : ℕ) → i < n + 1 → (node_at before i).parent ≡ Some q → (plan_at after i).next ≡ option_or (plan_at before i).next (follower (plan_at after q))
    follows i q less k =
        let up = b.before i q (omega arith) k in
        ⊎_elim
        (λ e. ap (λ (a : ℕ). (plan_at after a).next) e ∙ next
        ∙ ap₂ option_or (v.rest n (omega arith) ∙ ap (λ (a : ℕ). (plan_at before a).next) (sym e))
        (ap (λ (a : ℕ). follower (plan_at now a)) (let r = parents_alike (Some p) (Some q) i parent e k in cc) ∙ same_follower q (omega arith)))
        (λ e. other_nexts i e ∙ v.next i q (omega arith) k ∙ ap (option_or (plan_at before i).next) (same_follower q (omega arith))) (cases_eq i n)

    pub followed_more : Followed before after (n + 1)
    followed_more = record {
      same = kept ∙ v.same;
      first = λ i. firsts i ∙ v.first i;
      next = follows;
      root = λ i k. other_nexts i (λ e. let r : Some p ≡ None = parents_alike (Some p) None i parent e k in absurd cc) ∙ v.root i k;
      rest = λ i le. other_nexts i (λ e. omega arith) ∙ v.rest i (omega arith);
    }
