use Rattle.std.proofs.Common.{◌≡◌, ◌*◌, ◌≤◌, map, drop}
use Rattle.traversal.specs.Order.{visited}
use Rattle.traversal.specs.Survey.{survey_from}
use Rattle.traversal.proofs.survey.survey.Given as goal

-- what is left gives the answer
abbrev pub invariant-loop-visit : goal.invariant-loop-visit
invariant-loop-visit g l =
    (survey_from (g.H.Host.errors l.host) l.total (drop l.visit-index (map visited l.order)) ≡ survey_from (g.H.Host.errors l.host) 0 (map visited l.order))
    × (l.total ≤ l.visit-index * 65536)
