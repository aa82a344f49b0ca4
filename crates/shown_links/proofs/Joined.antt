-- The links that are put down link the nodes that are shown.
use Rattle.std.proofs.Common.{◌≡◌, ℕ, zero, suc, ◌+◌, ◌<◌, Bool, true, false, cond, List, [], ◌∷◌, map, length, drop, Some, None, Option, sym, refl, ap, ◌∙◌, subst, arith}
use Rattle.std.proofs.lemmas.Bool.{cond-true, cond-false}
use Rattle.std.proofs.lemmas.List.{drop_all, drop_more}
use Rattle.std.specs.Option.{option_or}
use Rattle.model.specs.Host.{Errors}
use Rattle.nodes.specs.declared.node.Node.{Node}
use Rattle.nodes.specs.Breadth.{Entry, children_at, is_parent, others, rebuild}
use Rattle.nodes.specs.Check.{blank, node_at}
use Rattle.nodes.specs.Flattening.{unlisted}
use Rattle.nodes.specs.Nodes.{Content}
use Rattle.nodes.specs.Rows.{Rows, none, node, ◌beside◌}
use Rattle.readings.specs.Readings.{marker, marker_in}
use Rattle.print_forms.specs.Shown.{displayed}
use Rattle.shown_links.specs.Linked.{Linked, content_of, plan_at}
use Rattle.shown_links.specs.Linking.{Followed, Gathered, ParentsBefore, first_at, first_from, first_shown, follower, unlinked}
use Rattle.shown_links.proofs.Beside.{beside_assoc, beside_none}
use Rattle.shown_links.proofs.Kept.{same_length, same_node, same_marker, same_parent}
use Rattle.shown_links.proofs.Firsts.{child_of, first_later, not_child}

module _ {A : Type 0} where
  -- what waits for one parent is not changed by what another takes
  children_left : (n p : ℕ) → p < n → (ws : List (Entry A)) → children_at p (others n ws) ≡ children_at p ws
  children_left n p less [] = refl
  children_left n p less (w ∷ ws) = go (is_parent n w.parent) refl (children_left n p less ws)
    where
      go : (b : Bool) → is_parent n w.parent ≡ b → children_at p (others n ws) ≡ children_at p ws → children_at p (cond b (others n ws) (w ∷ others n ws)) ≡ children_at p (w ∷ ws)
      go true q l = l ∙ sym (cond-false (is_parent p w.parent) _ _ (not_child p n w.parent (child_of n w.parent q) (λ e. omega arith)))
      go false q l = ap (λ (r : Rows A). cond (is_parent p w.parent) (node w.value w.children r) r) l

pub or_none : (o : Option ℕ) → option_or o None ≡ o
or_none None = refl
or_none (Some i) = refl

or_assoc : (a b c : Option ℕ) → option_or (option_or a b) c ≡ option_or a (option_or b c)
or_assoc None b c = refl
or_assoc (Some i) b c = refl

-- the links of a list that was gone through in both ways
pub record Joined (before now : List Node) : Type 0 where
  pub same : map unlinked now ≡ map unlinked before
  pub first : (p : ℕ) → p < length before → (plan_at now p).first ≡ first_at before 1 p
  pub next : (i p : ℕ) → 0 < i → i < length before → (node_at before i).parent ≡ Some p → (plan_at now i).next ≡ option_or (first_at before (i + 1) p) (follower (plan_at now p))
  pub root : (node_at before 0).parent ≡ None → (plan_at now 0).next ≡ None

pub joined : (before mid now : List Node) → Gathered before mid 1 → Followed mid now (length mid) → Joined before now
joined before mid now g f = record {
  same = f.same ∙ g.same;
  first = λ p less. f.first p ∙ g.first p less;
  next = λ i p low less q.
      let n = same_length before mid g.same in
      f.next i p (omega arith) (same_parent before mid g.same i ∙ q) ∙ ap (λ (o : Option ℕ). option_or o (follower (plan_at now p))) (g.next i p (omega arith) less q);
  root = λ q. f.root 0 (same_parent before mid g.same 0 ∙ q) ∙ g.rest 0 (omega arith);
}

module _ (h : Errors) (before now : List Node) (b : ParentsBefore before) (j : Joined before now)
    (marks : (i : ℕ) → i < length before → (plan_at before i).marker ≡ marker_in h (node_at before i).error) where
  -- what is shown after those beneath `p`
  abbrev after : ℕ → Option ℕ
  after p = follower (plan_at now p)

  -- the nodes beneath `p` that are shown of those in the last nodes of the list are linked, and so are those after them
  abbrev LinkedFrom : ℕ → List Node → ℕ → Rows Content → Type 0
  LinkedFrom n ys p k = Linked now (option_or (first_from n ys p) (after p)) (displayed (marker h) (children_at p (rebuild n (map unlisted ys))) beside k)

  module _ (n : ℕ) (lt : n < length before) (low : 0 < n) (ih : (p : ℕ) → p < n + 1 → (k : Rows Content) → Linked now (after p) k → LinkedFrom (n + 1) (drop (n + 1) before) p k)
      (p : ℕ) (less : p < n) (k : Rows Content) (linked : Linked now (after p) k) where
    abbrev x : Node
    x = node_at before n

    abbrev ws : List (Entry Content)
    ws = rebuild (n + 1) (map unlisted (drop (n + 1) before))

    -- the first that is shown of those beneath the node, and of those after it beneath `p`
    abbrev child : Option ℕ
    child = first_at before (n + 1) n

    abbrev later : Option ℕ
    later = first_at before (n + 1) p

    -- all that is shown of them
    abbrev beneath : Rows Content
    beneath = displayed (marker h) (children_at n ws)

    abbrev beyond : Rows Content
    beyond = displayed (marker h) (children_at p ws)

    first_is : (plan_at now n).first ≡ child
    first_is = j.first n lt ∙ first_later before b n 1 n (omega arith) lt

    module _ (mine : x.parent ≡ Some p) where
      next_is : (plan_at now n).next ≡ option_or later (after p)
      next_is = j.next n p low lt mine

      nexts : Linked now (plan_at now n).next (beyond beside k)
      nexts = subst (λ (o : Option ℕ). Linked now o (beyond beside k)) (sym next_is) (ih p (omega arith) k linked)

      -- a node that is shown, and a marker
      by_mark : (m : Bool) → (plan_at now n).marker ≡ m → Linked now (option_or (first_shown m child n later) (after p)) (cond m (beneath beside beyond) (node (content_of x) beneath beyond) beside k)
      by_mark true q =
          let own : (plan_at now n).next ≡ after n = sym (cond-true (plan_at now n).marker _ _ q) in
          let l = ih n (omega arith) (beyond beside k) (subst (λ (o : Option ℕ). Linked now o (beyond beside k)) own nexts) in
          let e : option_or child (after n) ≡ option_or (option_or child later) (after p) = ap (option_or child) (sym own ∙ next_is) ∙ sym (or_assoc child later (after p)) in
          subst (λ (r : Rows Content). Linked now (option_or (option_or child later) (after p)) r) (sym (beside_assoc beneath beyond k))
          (subst (λ (o : Option ℕ). Linked now o (beneath beside (beyond beside k))) e l)
      by_mark false q =
          let own : after n ≡ None = cond-false (plan_at now n).marker _ _ q in
          let l = ih n (omega arith) none own in
          let e : option_or child (after n) ≡ (plan_at now n).first = ap (option_or child) own ∙ or_none child ∙ sym first_is in
          let c : Linked now (plan_at now n).first beneath =
          subst (λ (r : Rows Content). Linked now (plan_at now n).first r) (beside_none beneath) (subst (λ (o : Option ℕ). Linked now o (beneath beside none)) e l) in
          let len = same_length before now j.same in
          (n, refl, omega arith, ap content_of (same_node before now j.same n), c, nexts)

    -- a node beneath `p`, and another
    by_parent : (t : Bool) → is_parent p x.parent ≡ t
        → Linked now (option_or (cond t (first_shown (plan_at before n).marker child n later) later) (after p))
        (displayed (marker h) (cond t (node (content_of x) (children_at n ws) (children_at p ws)) (children_at p ws)) beside k)
    by_parent false q = ih p (omega arith) k linked
    by_parent true q =
        let m = marks n lt in
        subst (λ (a : Bool). Linked now (option_or (first_shown a child n later) (after p)) (cond (marker_in h x.error) (beneath beside beyond) (node (content_of x) beneath beyond) beside k)) (sym m)
        (by_mark (child_of p x.parent q) (marker_in h x.error) (same_marker before now j.same n ∙ m))

    row : LinkedFrom n (x ∷ drop (n + 1) before) p k
    row =
        subst (λ (r : Rows Content). Linked now (option_or (first_from n (x ∷ drop (n + 1) before) p) (after p))
        (displayed (marker h) (cond (is_parent p x.parent) (node (content_of x) (children_at n ws) r) r) beside k)) (sym (children_left n p less ws))
        (by_parent (is_parent p x.parent) refl)

  -- so are those of all nodes from `n` on
  pub rows : (d n : ℕ) → n + d ≡ length before → 0 < n → (p : ℕ) → p < n → (k : Rows Content) → Linked now (after p) k → LinkedFrom n (drop n before) p k
  rows zero n e low p less k linked = subst (λ (ys : List Node). LinkedFrom n ys p k) (sym (drop_all n before (omega arith))) linked
  rows (suc d) n e low p less k linked =
      subst (λ (ys : List Node). LinkedFrom n ys p k) (sym (drop_more before n blank (omega arith)))
      (row n (omega arith) low (λ q fit r l. rows d (n + 1) (omega arith) (omega arith) q fit r l) p less k linked)
