use Rattle.std.proofs.Common.{◌≡◌, ◌+◌, ◌<◌, length, sym, ◌∙◌, ap, is_some, Some, Option, ℕ, arith, rules}
use Rattle.nodes.specs.declared.node.Plan.{Plan}
use Rattle.line_plans.specs.Causes.{only_cause}
use Rattle.line_plans.proofs.Runs.{at_run_empty, at_run_end, at_run_inside, at_run_main, at_run_more, at_run_node, at_run_none, at_run_room, at_run_within, at_run_within_next}
use Rattle.line_plans.proofs.planning.plan_run.Goals as goal
use Rattle.line_plans.proofs.planning.plan_run.Goals.{In-Some, In_default}

here : (c : In-Some) → only_cause c.loop-node.nodes c.loop-node.at ≡ Some c.in-Some.node
here c = sym c.only_cause.ensures ∙ c.in-Some.is

room : (c : In-Some) → c.args.start + c.loop-node.number < length c.loop-node.nodes
room c = at_run_room _ _ _ _ _ _ _ c.loop-node.invariant c.requires.causes _ (here c)

pub loop-node-init : goal.loop-node-init
loop-node-init c = at_run_none _ _ _ _

pub only_cause-requires : goal.only_cause-requires
only_cause-requires c = at_run_within _ _ _ _ _ _ _ c.loop-node.invariant c.requires.causes

pub plan_of-below-requires : goal.plan_of-below-requires
plan_of-below-requires c = at_run_node _ _ _ _ _ _ _ c.loop-node.invariant c.requires.causes _ (here c)

pub only_cause-requires-in-Some : goal.only_cause-requires-in-Some
only_cause-requires-in-Some c =
    rw c.plan_of-below.ensures (at_run_within_next _ _ _ _ _ _ _ c.loop-node.invariant c.requires.causes _ (here (goal.at.only_cause-requires-in-Some c).In-Some))

pub overflow_add-start : goal.overflow_add-start
overflow_add-start c = let h = room (goal.at.overflow_add-start c).In-Some in let few = c.requires.few in let long = c.loop-node.auto.nodes in search rules

pub put_line-requires : goal.put_line-requires
put_line-requires c = room (goal.at.put_line-requires c).In-Some

pub loop-node-smaller : goal.loop-node-smaller
loop-node-smaller c = let h = room (goal.at.loop-node-smaller c).In-Some in let long = c.loop-node.auto.nodes in omega arith

pub loop-node-preserved : goal.loop-node-preserved
loop-node-preserved c =
    at_run_more _ _ _ _ _ _ _ c.loop-node.invariant c.put_line.new.nodes c.in-Some.node (here (goal.at.loop-node-preserved c).In-Some) c.put_line.ensures.others _ c.put_line.ensures.line c.is_some-continues.result
    (c.is_some-continues.ensures ∙ ap (λ (o : Option ℕ). is_some o) c.only_cause-in-Some.ensures ∙ ap (λ (p : Plan). is_some (only_cause c.loop-node.nodes p.first)) c.plan_of-below.ensures)
    c.position_in_run-position.ensures _ (ap (λ (p : Plan). p.first) c.plan_of-below.ensures)

pub overflow_add-result : goal.overflow_add-result
overflow_add-result c =
    let h = at_run_end _ _ _ _ _ _ _ c.loop-node.invariant c.requires.causes in
    let few = c.requires.few in
    let long = c.loop-node.auto.nodes in
    search rules

pub returns-in-Some-branch-clause-run : goal.returns-in-Some-branch-clause-run
returns-in-Some-branch-clause-run c = λ r p b. at_run_inside _ _ _ _ _ _ _ c.loop-node.invariant (sym c.only_cause.ensures ∙ c.in_default.is) r p b _ c.in-Some-branch.is (omega arith)

pub returns-in_default-branch-clause-run : goal.returns-in_default-branch-clause-run
returns-in_default-branch-clause-run c = λ r p b. at_run_empty _ _ _ _ _ _ _ c.loop-node.invariant (sym c.only_cause.ensures ∙ c.in_default.is) r p b (omega arith)

pub returns-in_default-branch-2-clause-run : goal.returns-in_default-branch-2-clause-run
returns-in_default-branch-2-clause-run c = λ r p b. at_run_main _ _ _ _ _ _ _ c.loop-node.invariant (sym c.only_cause.ensures ∙ c.in_default.is) r p b c.in_default-branch.is
