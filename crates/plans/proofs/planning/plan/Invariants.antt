use Rattle.std.proofs.Common.{◌≡◌, ◌+◌, length, vec_len}
use Rattle.std.specs.Prelude.{count_by, is_some}
use Rattle.plans.specs.Within.{is_case, tally}
use Rattle.plans.proofs.planning.plan.Given as goal

abbrev pub invariant-loop-line : goal.invariant-loop-line
invariant-loop-line l =
    (goal.iterator-loop-line).can_next l.line-iterator ×
    (goal.iterator-loop-line).is_finite l.line-iterator ×
    (l.number ≡ length l.yielded) ×
    (vec_len l.planner.cases + tally (is_some l.planner.current) ≡ count_by is_case l.yielded)
