use Rattle.shown_links.specs.Linking.{Gathered}
use Rattle.shown_links.proofs.links.gather.Given as goal

abbrev pub invariant-loop-i : goal.invariant-loop-i
invariant-loop-i l = Gathered l.initial.nodes l.nodes l.i
