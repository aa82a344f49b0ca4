use Rattle.chains.specs.Kept.{Kept}
use Rattle.chains.proofs.errors.keep_errors.Given as goal

abbrev pub invariant-loop-i : goal.invariant-loop-i
invariant-loop-i g l = Kept (g.H.Host.errors l.host) l.initial.list l.list l.i l.found
