use Rattle.std.proofs.Common.{◌≡◌, take}
use Rattle.cases.specs.Spelling.{spelling}
use Rattle.cases.proofs.writing.write.Given as goal

abbrev pub invariant-loop-line : goal.invariant-loop-line
invariant-loop-line l = l.out.items ≡ spelling (take l.line-index l.lines)
