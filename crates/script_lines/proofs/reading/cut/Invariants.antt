use Rattle.std.proofs.Common.{◌≡◌, true, take}
use Rattle.script_lines.specs.Spelling.{plain}
use Rattle.script_lines.proofs.reading.cut.Given as goal

abbrev pub invariant-loop-i : goal.invariant-loop-i
invariant-loop-i l = plain (take l.i l.script) ≡ true
