use Rattle.questions.proofs.Nodes.{Noting}
use Rattle.questions.proofs.chain.nodes_cause.Given as goal

abbrev pub invariant-loop-i : goal.invariant-loop-i
invariant-loop-i g l = Noting (g.H.Host.errors l.host) l.initial.nodes l.nodes l.i
