use Rattle.std.proofs.Common.{◌≡◌, ◌++◌, length}
use Rattle.cases.specs.Spelling.{spelling}
use Rattle.cases.specs.Valid.{AreLines}
use Rattle.cases.proofs.reader.all.Given as goal

abbrev pub invariant-loop-rest : goal.invariant-loop-rest
invariant-loop-rest l = AreLines l.lines.items × (l.fn.text ≡ spelling l.lines.items ++ l.rest)

abbrev pub decreases-loop-rest : goal.decreases-loop-rest
decreases-loop-rest l = length l.rest
