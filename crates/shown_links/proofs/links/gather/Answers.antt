use Rattle.std.proofs.Common.{◌<◌, ◌-◌, refl, arith}
use Rattle.shown_links.proofs.Kept.{parents_kept}
use Rattle.shown_links.proofs.Gathering.{gathered_none, gathered_alone, gathered_more}
use Rattle.shown_links.proofs.links.gather.Goals.{In-Some}
use Rattle.shown_links.proofs.links.gather.Goals as goal

pub loop-i-init : goal.loop-i-init
loop-i-init c = gathered_none c.args.nodes.now c.requires.unlinked _ refl c.requires.some

-- the parent stands before the node
parent : (c : In-Some) → c.in-Some.parent < c.loop-i.i - 1
parent c =
    let end = c.loop-i.auto.i in
    let one = c.loop-i-test.true in
    let long = c.loop-i.auto.nodes in
    (parents_kept _ c.loop-i.nodes c.loop-i.invariant.same c.requires.parents).before (c.loop-i.i - 1) c.in-Some.parent (omega arith) c.in-Some.is

pub gather_node-requires-clause-behind : goal.gather_node-requires-clause-behind
gather_node-requires-clause-behind c = parent (goal.at.gather_node-requires-clause-behind c).In-Some

pub loop-i-preserved-in-Some : goal.loop-i-preserved-in-Some
loop-i-preserved-in-Some c =
    let end = c.loop-i.auto.i in
    let one = c.loop-i-test.true in
    let long = c.loop-i.auto.nodes in
    let e = c.gather_node.ensures in
    gathered_more _ c.loop-i.nodes _ c.loop-i.invariant (c.loop-i.i - 1) (omega arith) (omega arith) (omega arith) c.in-Some.parent c.in-Some.is
    (parent (goal.at.loop-i-preserved-in-Some c).In-Some) c.gather_node.new.nodes e.same e.first e.other_firsts e.next e.other_nexts

pub loop-i-preserved : goal.loop-i-preserved
loop-i-preserved c =
    let end = c.loop-i.auto.i in
    let one = c.loop-i-test.true in
    let long = c.loop-i.auto.nodes in
    gathered_alone _ c.loop-i.nodes _ c.loop-i.invariant (c.loop-i.i - 1) (omega arith) (omega arith) (omega arith) c.in_default.is
