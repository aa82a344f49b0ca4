use Rattle.std.proofs.Common.{◌-◌, ◌<◌, length, arith}
use Rattle.line_plans.proofs.Heads.{at_head_beneath, at_head_ends, at_head_grows, at_head_line, at_head_more, at_head_node}
use Rattle.line_plans.proofs.planning.plan_lines.Goals as goal
use Rattle.line_plans.proofs.planning.plan_lines.Goals.{In-Some}

room : (c : In-Some) → c.loop-at.line < length c.loop-at.nodes
room c = at_head_line _ _ _ _ _ c.loop-at.invariant c.requires.linked _ c.in-Some.is

pub plan_head-first-requires-clause-within : goal.plan_head-first-requires-clause-within
plan_head-first-requires-clause-within c = at_head_node _ _ _ _ _ c.loop-at.invariant c.requires.linked _ c.in-Some.is

pub plan_head-first-requires-clause-room : goal.plan_head-first-requires-clause-room
plan_head-first-requires-clause-room c = room (goal.at.plan_head-first-requires-clause-room c).In-Some

pub plan_causes-line-requires : goal.plan_causes-line-requires
plan_causes-line-requires c =
    let long = c.loop-at.auto.nodes in
    let kept = c.plan_head-first.auto.nodes in
    let few = c.requires.few in
    record {
      few = omega arith;
      deep = omega arith;
      causes = at_head_beneath _ _ _ _ _ c.loop-at.invariant _ _ c.in-Some.is _ c.plan_head-first.ensures.plan c.plan_head-first.ensures.others c.plan_head-first.ensures.line c.requires.linked;
    }

pub loop-at-smaller : goal.loop-at-smaller
loop-at-smaller c =
    let h = room (goal.at.loop-at-smaller c).In-Some in
    let grows = at_head_grows _ _ _ _ _ c.loop-at.invariant _ _ c.in-Some.is _ c.plan_head-first.ensures.plan c.plan_head-first.ensures.others c.plan_head-first.ensures.line _ c.plan_causes-line.ensures.others _
    c.plan_causes-line.ensures.lines c.requires.linked in
    let long = c.loop-at.auto.nodes in
    let kept = c.plan_head-first.auto.nodes in
    let same = c.plan_causes-line.auto.nodes in
    let less : length c.plan_causes-line.new.nodes - c.plan_causes-line.result < length c.loop-at.nodes - c.loop-at.line = omega arith in
    less

pub loop-at-preserved : goal.loop-at-preserved
loop-at-preserved c =
    at_head_more _ _ _ _ _ c.loop-at.invariant _ _ c.in-Some.is _ c.plan_head-first.ensures.plan c.plan_head-first.ensures.others c.plan_head-first.ensures.line _ c.plan_causes-line.ensures.others _ c.plan_causes-line.ensures.lines

pub returns-clause-lines : goal.returns-clause-lines
returns-clause-lines c = at_head_ends _ _ _ _ _ c.loop-at.invariant c.in_default.is
