use Rattle.std.proofs.Common.{◌≡◌, drop}
use Rattle.std.specs.List.{filter_map}
use Rattle.listed_readings.specs.Judged.{judged}
use Rattle.questions.proofs.Findings.{beside}
use Rattle.questions.proofs.judging.judge.Given as goal

-- what is left gives the answer
abbrev pub invariant-loop-item : goal.invariant-loop-item
invariant-loop-item g l =
    beside l.found (judged (g.H.Host.errors l.host) (g.P.Policy.accepted l.policy) (filter_map g.J.Judged.error_of (drop l.item-index l.list)))
    ≡ judged (g.H.Host.errors l.host) (g.P.Policy.accepted l.policy) (filter_map g.J.Judged.error_of l.list)
