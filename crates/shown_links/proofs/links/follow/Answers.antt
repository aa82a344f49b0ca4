use Rattle.std.proofs.Common.{◌+◌, List, sym, subst, arith}
use Rattle.nodes.specs.declared.node.Node.{Node}
use Rattle.shown_links.specs.Linking.{Followed}
use Rattle.shown_links.proofs.Kept.{parents_kept}
use Rattle.shown_links.proofs.Following.{followed_none, followed_alone, followed_more}
use Rattle.shown_links.proofs.links.follow.Goals.{in-Some, in_default}
use Rattle.shown_links.proofs.links.follow.Goals as goal

pub loop-i-init : goal.loop-i-init
loop-i-init c = followed_none c.args.nodes.now c.requires.parents c.requires.some

pub follow_node-requires-clause-behind : goal.follow_node-requires-clause-behind
follow_node-requires-clause-behind c =
    let one = c.loop-i-test.true in
    let long = c.loop-i.auto.nodes in
    (parents_kept _ c.loop-i.nodes c.loop-i.invariant.same c.requires.parents).before c.loop-i.i c.in-Some.parent (omega arith) c.in-Some.is

pub loop-i-preserved : goal.loop-i-preserved
loop-i-preserved c =
    let after = λ (xs : List Node). Followed c.args.nodes.now xs (c.loop-i.i + 1) in
    elim c.match-nodes-i.branch [
      | in-Some w ↦
          let e = w.follow_node.ensures in
          subst after (sym w.nodes-is)
          (followed_more _ c.loop-i.nodes _ c.loop-i.invariant c.requires.parents c.loop-i-test.true w.in-Some.parent w.in-Some.is w.follow_node.new.nodes e.same e.firsts e.next e.other_nexts)
      | in_default w ↦ subst after (sym w.nodes-is) (followed_alone _ c.loop-i.nodes _ c.loop-i.invariant c.requires.parents c.loop-i-test.true w.in_default.is)
    ]
