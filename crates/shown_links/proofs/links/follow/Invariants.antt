use Rattle.shown_links.specs.Linking.{Followed}
use Rattle.shown_links.proofs.links.follow.Given as goal

abbrev pub invariant-loop-i : goal.invariant-loop-i
invariant-loop-i l = Followed l.initial.nodes l.nodes l.i
