use Rattle.std.proofs.Common.{length, arith, rules}
use mathlib.Core.Logic.{∥∥₁_elim}
use Rattle.traversal.proofs.Trails.{Ahead, ahead, ahead_prop, trail_more, trail_all}
use Rattle.traversal.proofs.order.append_children.Given.{Over}
use Rattle.traversal.proofs.order.append_children.Goals as goal
use Rattle.traversal.proofs.order.append_children.Goals.{In-Some}

next : (g : Over) (c : In-Some g) → Ahead g.row.N (length c.loop-at.order.items) c.in-Some.frame
next g c = ∥∥₁_elim c.requires (ahead_prop _ _ _) (λ w. ahead _ _ _ _ _ _ w.1 _ _ (c.loop-at.invariant w.0 w.1) c.in-Some.frame c.in-Some.is)

pub visit_of-requires : goal.visit_of-requires
visit_of-requires g c = (next g (goal.at.visit_of-requires g c).In-Some).below

pub push-requires : goal.push-requires
push-requires g c = (search rules, (next g (goal.at.push-requires g c).In-Some).room)

pub frame-at-requires : goal.frame-at-requires
frame-at-requires g c = (next g (goal.at.frame-at-requires g c).In-Some).below

pub loop-at-smaller : goal.loop-at-smaller
loop-at-smaller g c = let h = (next g (goal.at.loop-at-smaller g c).In-Some).room in let l = c.push.ensures.len in omega arith

pub loop-at-preserved : goal.loop-at-preserved
loop-at-preserved g c = λ kids o. rw (c.push.ensures.items, c.visit_of.ensures, c.frame-at.ensures) (trail_more _ _ _ kids _ _ o _ _ (c.loop-at.invariant kids o) c.in-Some.frame c.in-Some.is)

pub returns : goal.returns
returns g c = λ kids o. trail_all _ _ _ kids _ _ o _ _ (c.loop-at.invariant kids o) c.in_default.is
