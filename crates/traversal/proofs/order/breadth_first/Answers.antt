use Rattle.std.proofs.Common.{[], ◌∷◌, ◌++◌, List, ap₂, ◌∙◌, arith, rules}
use mathlib.Core.Logic.{∥∥₁_elim}
use native.Mathlib.Bridge.{le_prop}
use Rattle.traversal.specs.declared.order.Visit.{Visit}
use Rattle.traversal.proofs.Walks.{found, start, first_visit, walk_none, turn, turn_room, turn_more, all_ordered}
use Rattle.traversal.proofs.order.breadth_first.Goals as goal

pub visit_of-requires : goal.visit_of-requires
visit_of-requires g c = ∥∥₁_elim (found c.args.frames.now c.args.root c.requires.live) le_prop (λ a. a.placed.below)

pub loop-i-init : goal.loop-i-init
loop-i-init g c = λ a. walk_none _ _ _ (start _ _ _ _ a.placed) _ (c.push.ensures.items ∙ ap₂ (λ (xs : List Visit) (v : Visit). xs ++ (v ∷ [])) c.requires.empty (c.visit_of.ensures ∙ first_visit _ _ _ _ a.placed))

pub offset_bounds-deref-i : goal.offset_bounds-deref-i
offset_bounds-deref-i g c = let h = (turn _ _ c.requires.live _ _ _ c.loop-i.invariant c.size-i-end.ensures c.loop-i-test.true).few in search rules

pub bounds-deref-i : goal.bounds-deref-i
bounds-deref-i g c = rw c.deref.ensures.0 ((turn _ _ c.requires.live _ _ _ c.loop-i.invariant c.size-i-end.ensures c.loop-i-test.true).here)

pub frame-first-requires : goal.frame-first-requires
frame-first-requires g c = rw c.deref.ensures.0 ((turn _ _ c.requires.live _ _ _ c.loop-i.invariant c.size-i-end.ensures c.loop-i-test.true).below)

pub append_children-requires : goal.append_children-requires
append_children-requires g c = (let n = c.requires.small in search rules, turn_room _ _ c.requires.live _ _ _ c.loop-i.invariant c.size-i-end.ensures c.loop-i-test.true _ c.deref.ensures.0 _ c.frame-first.ensures _ (let n = c.size-i-end.ensures in let r = c.requires.room in omega arith))

pub loop-i-preserved : goal.loop-i-preserved
loop-i-preserved g c = turn_more _ _ c.requires.live _ _ _ c.loop-i.invariant c.size-i-end.ensures c.loop-i-test.true _ c.deref.ensures.0 _ c.frame-first.ensures _ (let n = c.size-i-end.ensures in let r = c.requires.room in omega arith) _ c.append_children.ensures

pub returns : goal.returns
returns g c = all_ordered _ _ c.requires.live _ _ _ c.loop-i.invariant c.size-i-end.ensures c.loop-i-test.false

pub overflow_cast-i : goal.overflow_cast-i
overflow_cast-i g c = let h = (turn _ _ c.requires.live _ _ _ c.loop-i.invariant c.size-i-end.ensures c.loop-i-test.true).few in search rules
