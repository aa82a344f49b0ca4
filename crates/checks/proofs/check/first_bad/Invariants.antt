use Rattle.std.proofs.Common.{◌+◌, length}
use Rattle.nodes.proofs.Checking.{Conclusions}
use Rattle.checks.proofs.check.first_bad.Given as goal

-- the nodes before `i` passed
abbrev pub invariant-loop-i : goal.invariant-loop-i
invariant-loop-i g l = Conclusions (g.H.Host.errors l.host) l.nodes (g.H.Host.extent l.host) (g.met.H.Host.lawful l.host) (length l.yielded + 1) l.at.last l.at.owing
