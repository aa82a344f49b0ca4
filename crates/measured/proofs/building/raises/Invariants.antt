use Rattle.std.proofs.Common.{◌≡◌, true}
use Rattle.store.specs.Calls.{report_held}
use Rattle.measured.proofs.building.raises.Given as goal

-- the report is the store's
abbrev pub invariant-loop-place : goal.invariant-loop-place
invariant-loop-place l = report_held l.store l.report ≡ true
