use Rattle.std.proofs.Common.{◌-◌, length}
use Rattle.line_plans.proofs.Heads.{AtHead}
use Rattle.line_plans.proofs.planning.plan_lines.Given as goal

abbrev pub invariant-loop-at : goal.invariant-loop-at
invariant-loop-at l = AtHead l.fn.nodes l.nodes l.line l.fn.heads l.at

abbrev pub decreases-loop-at : goal.decreases-loop-at
decreases-loop-at l = length l.nodes - l.line
