use Rattle.std.proofs.Common.{ℕ, ◌-◌, ◌<◌, ◌≤◌, length, arith, rules}
use Rattle.line_plans.proofs.Forks.{at_fork_beneath, at_fork_ends, at_fork_grows, at_fork_late, at_fork_line, at_fork_more, at_fork_node, at_fork_place}
use Rattle.line_plans.proofs.planning.+plan_causes.Goals as goal
use Rattle.line_plans.proofs.planning.+plan_causes.Goals.{In-Some}

room : (t : ℕ) (c : In-Some t) → c.loop-at.line < length c.loop-at.nodes
room t c = at_fork_line _ _ _ _ _ _ _ _ _ c.loop-at.invariant c.requires.causes _ c.in-Some.is

late : (t : ℕ) (c : In-Some t) → c.args.start ≤ c.loop-at.line
late t c = at_fork_late _ _ _ _ _ _ _ _ _ c.loop-at.invariant c.requires.causes

pub plan_branch-first-requires-clause-within : goal.plan_branch-first-requires-clause-within
plan_branch-first-requires-clause-within t c = at_fork_node _ _ _ _ _ _ _ _ _ c.loop-at.invariant c.requires.causes _ c.in-Some.is

pub plan_branch-first-requires-clause-room : goal.plan_branch-first-requires-clause-room
plan_branch-first-requires-clause-room t c = room t (goal.at.plan_branch-first-requires-clause-room t c).In-Some

pub plan_causes-line-requires : goal.plan_causes-line-requires
plan_causes-line-requires t c =
    let h = room t (goal.at.plan_causes-line-requires t c).In-Some in
    let l = late t (goal.at.plan_causes-line-requires t c).In-Some in
    let long = c.loop-at.auto.nodes in
    let kept = c.plan_branch-first.auto.nodes in
    let few = c.requires.few in
    let some = at_fork_beneath _ _ _ _ _ _ _ _ _ c.loop-at.invariant _ _ c.in-Some.is _ c.plan_branch-first.ensures.plan c.plan_branch-first.ensures.others c.plan_branch-first.ensures.line c.requires.causes in
    let deep = c.requires.deep in
    let less : c.args.depth - 1 < t = let m = c.decreases in omega arith in
    (less, (omega arith, (omega arith, some)))

pub overflow_sub-depth : goal.overflow_sub-depth
overflow_sub-depth t c =
    let h = room t (goal.at.overflow_sub-depth t c).In-Some in
    let l = late t (goal.at.overflow_sub-depth t c).In-Some in
    let long = c.loop-at.auto.nodes in
    let deep = c.requires.deep in
    omega arith

pub overflow_add-number : goal.overflow_add-number
overflow_add-number t c =
    let h = room t (goal.at.overflow_add-number t c).In-Some in
    let n = at_fork_place _ _ _ _ _ _ _ _ _ c.loop-at.invariant c.requires.causes _ c.in-Some.is in
    let few = c.requires.few in
    let long = c.loop-at.auto.nodes in
    search rules

pub loop-at-smaller : goal.loop-at-smaller
loop-at-smaller t c =
    let h = room t (goal.at.loop-at-smaller t c).In-Some in
    let grows = at_fork_grows _ _ _ _ _ _ _ _ _ c.loop-at.invariant _ _ c.in-Some.is _ c.plan_branch-first.ensures.plan c.plan_branch-first.ensures.others c.plan_branch-first.ensures.line _ c.plan_causes-line.ensures.others _
    c.plan_causes-line.ensures.lines c.requires.causes in
    let long = c.loop-at.auto.nodes in
    let kept = c.plan_branch-first.auto.nodes in
    let same = c.plan_causes-line.auto.nodes in
    let less : length c.plan_causes-line.new.nodes - c.plan_causes-line.result < length c.loop-at.nodes - c.loop-at.line = omega arith in
    less

pub loop-at-preserved : goal.loop-at-preserved
loop-at-preserved t c =
    at_fork_more _ _ _ _ _ _ _ _ _ c.loop-at.invariant _ _ c.in-Some.is _ c.plan_branch-first.ensures.plan c.plan_branch-first.ensures.others c.plan_branch-first.ensures.line _ c.plan_causes-line.ensures.others _
    c.plan_causes-line.ensures.lines (late t (goal.at.loop-at-preserved t c).In-Some)

pub returns-clause-lines : goal.returns-clause-lines
returns-clause-lines t c = at_fork_ends _ _ _ _ _ _ _ _ _ c.loop-at.invariant c.in_default.is
