-- Where a fault is.
use Rattle.std.specs.Prelude.{ℕ, ◌≤◌, Bool, true, false}
use Rattle.cases.specs.declared.line.Line.{Line}
use Rattle.cases.specs.declared.line.Line.TheVariants as line
use Rattle.plans.specs.declared.fault.PlanError.{PlanError}
use Rattle.plans.specs.declared.fault.PlanError.TheVariants as error

-- the line is one of so many, counted from 1
abbrev pub Within : ℕ → PlanError → Type 0
Within count error.Memory = Unit {0}
Within count (error.Line n r) = (1 ≤ n) × (n ≤ count)

-- whether a line begins a case
abbrev pub is_case : Line → Bool
is_case (line.Case name) = true
is_case _ = false

abbrev pub tally : Bool → ℕ
tally true = 1
tally false = 0
