use Rattle.std.proofs.Common.{◌≡◌, ◌++◌, take, drop}
use Rattle.cases.specs.Reading.{before, after}
use Rattle.cases.proofs.fields.cut.Given as goal

abbrev pub invariant-loop-i : goal.invariant-loop-i
invariant-loop-i l = (before l.at l.bytes ≡ take l.i l.bytes ++ before l.at (drop l.i l.bytes)) × (after l.at l.bytes ≡ after l.at (drop l.i l.bytes))
