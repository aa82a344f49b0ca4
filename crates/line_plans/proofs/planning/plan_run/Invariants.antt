use Rattle.std.proofs.Common.{◌-◌, length}
use Rattle.line_plans.proofs.Runs.{AtRun}
use Rattle.line_plans.proofs.planning.plan_run.Given as goal

abbrev pub invariant-loop-node : goal.invariant-loop-node
invariant-loop-node l = AtRun l.initial.nodes l.nodes l.start l.fn.first l.at l.branch l.number

abbrev pub decreases-loop-node : goal.decreases-loop-node
decreases-loop-node l = length l.initial.nodes - l.number
