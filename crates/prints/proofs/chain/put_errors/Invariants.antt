use Rattle.prints.proofs.Errors.{Put}
use Rattle.prints.proofs.chain.put_errors.Given as goal

abbrev pub invariant-loop-node : goal.invariant-loop-node
invariant-loop-node g l = Put (g.H.Host.errors l.host) l.form l.nodes l.initial.out l.out l.node-index l.at l.shown
