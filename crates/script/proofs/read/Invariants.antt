use Rattle.std.proofs.Common.{◌-◌, ◌≤◌}
use Rattle.script.proofs.read.Given as goal

abbrev pub invariant-loop-len : goal.invariant-loop-len
invariant-loop-len l = l.len ≤ 4097

abbrev pub decreases-loop-len : goal.decreases-loop-len
decreases-loop-len l = 4097 - l.len
