use Rattle.std.proofs.Common.{◌-◌, length}
use Rattle.line_plans.proofs.Forks.{AtFork}
use Rattle.line_plans.proofs.planning.+plan_causes.Given as goal

abbrev pub decreases-plan_causes : goal.decreases-plan_causes
decreases-plan_causes l = l.depth

abbrev pub invariant-loop-at : goal.invariant-loop-at
invariant-loop-at l = AtFork l.fn.nodes l.nodes l.start l.line l.fn.first l.at l.above l.fn.branch l.number

abbrev pub decreases-loop-at : goal.decreases-loop-at
decreases-loop-at l = length l.nodes - l.line
