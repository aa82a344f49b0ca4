-- A list of marked nodes, which are those of a tree.
use Rattle.std.proofs.Common.{◌≡◌, ℕ, ◌+◌, ◌<◌, Bool, false, List, map, length, get_or, is_some, Some, None, Option, sym, refl, ap, ◌∙◌, subst, ⊎_elim, arith}
use Rattle.std.proofs.lemmas.Bool.{cases_lt}
use Rattle.std.proofs.lemmas.List.{get_or-map, get_or_past, length-map}
use Rattle.std.proofs.lemmas.Simd.{map-map}
use Rattle.model.specs.Host.{Errors}
use Rattle.trees.specs.Trees.{Tree}
use Rattle.nodes.specs.declared.node.Node.{Node}
use Rattle.nodes.specs.declared.node.Plan.{Plan}
use Rattle.nodes.specs.Breadth.{Item, breadth_first}
use Rattle.nodes.specs.Check.{blank, node_at}
use Rattle.nodes.specs.Flattening.{flattening, unlisted}
use Rattle.nodes.specs.Nodes.{Content, nodes_of}
use Rattle.nodes.proofs.Rebuild.{Before, flattening-length, unlisted-listed}
use Rattle.readings.specs.Readings.{marker_in}
use Rattle.readings.proofs.Rebuilt.{parent_at, parents_before}
use Rattle.shown_links.specs.Linked.{marked, no_plan, plan_at, plan_in}
use Rattle.shown_links.specs.Linking.{ParentsBefore, Unlinked}
use mathlib.Core.Logic.{∥∥₁_elim}
use native.Mathlib.Bridge.{le_prop}
use mathlib.Core.Bool.{Bool-set}

-- a plan with another word on whether the node is a marker
abbrev with_marker : Plan → Bool → Plan
with_marker p b = record { marker = b; first = p.first; next = p.next; line = p.line }

none_of : {A : Type 0} → (o : Option A) → is_some o ≡ false → o ≡ None
none_of None q = refl
none_of (Some x) q = absurd cc

-- a list of marked nodes
module _ (h : Errors) (t : Tree) (before : List Node) (q : before ≡ map (marked h) (flattening h t)) where
  pub items : map unlisted before ≡ breadth_first (nodes_of h t)
  unfolding flattening
  items = ap (map unlisted) q ∙ map-map unlisted (marked h) (flattening h t) ∙ unlisted-listed (breadth_first (nodes_of h t))

  pub some : 0 < length before
  some =
      let a = ap (λ (xs : List Node). length xs) q in
      let b = length-map (flattening h t) (marked h) in
      let c = flattening-length h t in
      omega arith

  pub behind : ParentsBefore before
  behind = record {
    before = λ i p lt k.
        let r = nodes_of h t in
        let n = length-map before unlisted in
        let same = ap (λ (xs : List (Item Content)). length xs) items in
        let at : get_or (breadth_first r) i (unlisted blank) ≡ unlisted (node_at before i) =
        ap (λ (xs : List (Item Content)). get_or xs i (unlisted blank)) (sym items) ∙ get_or-map unlisted before i blank (unlisted blank) lt in
        let less = subst (Before (0 + i)) (ap (λ (x : Item Content). x.parent) at ∙ k) (parent_at 0 (breadth_first r) (parents_before r) i (unlisted blank) (omega arith)) in
        omega arith;
  }

  at_mark : (i : ℕ) → i < length before → node_at before i ≡ marked h (node_at (flattening h t) i)
  at_mark i lt =
      let a = ap (λ (xs : List Node). length xs) q in
      let b = length-map (flattening h t) (marked h) in
      ap (λ (xs : List Node). node_at xs i) q ∙ get_or-map (marked h) (flattening h t) i blank blank (omega arith)

  pub marks : (i : ℕ) → i < length before → (plan_at before i).marker ≡ marker_in h (node_at before i).error
  marks i lt = ap (λ (x : Node). (plan_in x.note).marker) (at_mark i lt) ∙ ap (λ (x : Node). marker_in h x.error) (sym (at_mark i lt))

  -- nothing is planned beside one
  nothing_planned : (i : ℕ) → with_marker (plan_at before i) false ≡ no_plan
  nothing_planned i = ⊎_elim
      (λ lt. ap (λ (x : Node). with_marker (plan_in x.note) false) (at_mark i lt))
      (λ le. ap (λ (x : Node). with_marker (plan_in x.note) false) (get_or_past before i blank le)) (cases_lt i (length before))

-- the same where it is known but that there is a tree
abbrev pub Marked : List Node → Type 0
Marked xs = ∥ ((h : Errors) × ((t : Tree) × (xs ≡ map (marked h) (flattening h t)))) ∥₁

module _ (xs : List Node) (m : Marked xs) where
  pub some_marked : 0 < length xs
  some_marked = ∥∥₁_elim m le_prop (λ w. some w.0 w.1.0 xs w.1.1)

  pub behind_marked : ParentsBefore xs
  behind_marked = record { before = λ i p lt q. ∥∥₁_elim m le_prop (λ w. (behind w.0 w.1.0 xs w.1.1).before i p lt q) }

  -- nothing is planned beside a node
  absent : {A : Type 0} (f : Plan → Option A) → f no_plan ≡ None → ((p : Plan) → f (with_marker p false) ≡ f p) → (i : ℕ) → f (plan_at xs i) ≡ None
  absent f e same i = none_of (f (plan_at xs i))
      (∥∥₁_elim m (Bool-set _ _) (λ w. ap is_some (sym (same (plan_at xs i)) ∙ ap f (nothing_planned w.0 w.1.0 xs w.1.1 i) ∙ e)))

  pub bare_marked : Unlinked xs
  bare_marked = record { first = absent (λ p. p.first) refl (λ p. refl); next = absent (λ p. p.next) refl (λ p. refl) }

  pub no_line_marked : (i : ℕ) → (plan_at xs i).line ≡ None
  no_line_marked i = absent (λ p. p.line) refl (λ p. refl) i
