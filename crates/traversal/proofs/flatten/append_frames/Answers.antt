use Rattle.std.proofs.Common.{◌≡◌, ℕ, ◌+◌, ◌<◌, ◌≤◌, map, length, sym, ◌∙◌, subst, arith, rules}
use mathlib.Core.Logic.{∥∥₁_elim}
use native.Mathlib.Bridge.{le_prop}
use native.Mathlib.Numerals.{unary_clauses}
use Rattle.traversal.specs.Put.{Put}
use Rattle.traversal.specs.Spread.{from_forest, wait_node}
use Rattle.traversal.proofs.Lists.{listing_none, listing_more, listing_stop, listing_all, within}
use Rattle.traversal.proofs.flatten.append_frames.Goals as goal
use Rattle.traversal.proofs.flatten.append_frames.Goals.{Then-not-is_beneath, After-node, After-loop-k}

pub loop-k-init : goal.loop-k-init
loop-k-init c = λ f n room. simp unary_clauses (listing_none _ _ _ _ _ f room n)

pub overflow_add-result : goal.overflow_add-result
overflow_add-result c =
    let h : c.args.start + c.loop-k.k ≤ length c.args.list.now = ∥∥₁_elim c.requires le_prop (λ w. within c.args.order.now _ _ _ _ w.0 w.2 _ c.loop-k.k _ (c.loop-k.invariant w.0 w.1 w.2)) in
    search rules

pub returns-then-not-is_beneath : goal.returns-then-not-is_beneath
returns-then-not-is_beneath c = λ f n room. listing_stop c.args.order.now _ _ _ _ f room _ c.loop-k.k _ (c.loop-k.invariant f n room) (sym c.is_beneath.ensures ∙ c.if-not-is_beneath.true)

below : (c : After-node) → c.args.start + c.loop-k.k < length c.args.list.now
below c = ∥∥₁_elim c.requires le_prop (λ w.
    (listing_more _ _ _ _ _ w.0 w.2 _ _ _ (c.loop-k.invariant w.0 w.1 w.2) c.loop-k-test.true (sym c.is_beneath.ensures ∙ c.if-not-is_beneath.false)).below)

pub overflow_add-start : goal.overflow_add-start
overflow_add-start c = let h = below c in search rules

pub offset_bounds-list-start : goal.offset_bounds-list-start
offset_bounds-list-start c = let h = below c in search rules

pub bounds-list-start : goal.bounds-list-start
bounds-list-start c = let h = below c in let l = c.loop-k.auto.list in omega arith

pub loop-k-preserved : goal.loop-k-preserved
loop-k-preserved c = λ f n room.
    let e : c.args.start + (c.loop-k.k + 1) ≡ c.args.start + c.loop-k.k + 1 = omega arith in
    rw (c.node.ensures, e)
    (listing_more _ _ _ _ _ f room _ _ _ (c.loop-k.invariant f n room) c.loop-k-test.true (sym c.is_beneath.ensures ∙ c.if-not-is_beneath.false)).listing

at_end : (c : After-loop-k) → c.loop-k.k ≡ length c.args.order.now
at_end c = let e = c.loop-k.auto.k-end in let t = c.loop-k-test.false in omega arith

pub overflow_add-result-2 : goal.overflow_add-result-2
overflow_add-result-2 c =
    let e = at_end c in
    let h : c.args.start + c.loop-k.k ≤ length c.args.list.now = ∥∥₁_elim c.requires le_prop (λ w. within c.args.order.now _ _ _ _ w.0 w.2 _ c.loop-k.k _ (c.loop-k.invariant w.0 w.1 w.2)) in
    search rules

pub returns : goal.returns
returns c = λ f n room.
    subst (λ (k : ℕ). Put c.args.list.now c.loop-k.list c.args.start (c.args.start + k) (map wait_node (from_forest c.args.i c.args.o f))) (at_end c)
    (listing_all c.args.order.now _ _ _ _ f room _ c.loop-k.k _ (c.loop-k.invariant f n room) c.loop-k-test.false)
