use Rattle.std.proofs.Common.{◌<◌, length-set, refl, ap, ◌∙◌, arith, rules}
use Rattle.std.proofs.lemmas.List.{get_or-replicate, length-replicate}
use mathlib.Core.Logic.{∥∥₁_elim}
use native.Mathlib.Bridge.{le_prop}
use Rattle.trees.specs.Trees.{only}
use Rattle.nodes.specs.Nodes.{frame_rows}
use Rattle.questions.specs.Noted.{meant}
use Rattle.questions.specs.declared.seen.Seen.TheVariants.{Nothing}
use Rattle.traversal.specs.Order.{visited}
use Rattle.questions.proofs.Gathering.{gathered_alone, gathered_more, gathered_none, parent_before}
use Rattle.questions.proofs.Orders.{cause_gathered, frame_shows, some}
use Rattle.questions.proofs.report.order_cause.Given.{Over}
use Rattle.questions.proofs.report.order_cause.Goals.{In-Some}
use Rattle.questions.proofs.report.order_cause.Goals as goal

-- the parent stands before the frame
inside : (g : Over) (c : In-Some g) → c.in-Some.parent < g.row.N
inside g c =
    ∥∥₁_elim c.requires.frames le_prop (λ w.
    let few = c.requires.few in
    let i = c.loop-i.auto.i in
    let one = c.loop-i-test.true in
    let before = parent_before visited c.args.order.now (frame_rows (only w.0)) w.1 _ _ _ (omega arith) c.in-Some.is in
    omega arith)

pub loop-i-init : goal.loop-i-init
loop-i-init g c = record {
  low = λ x. x;
  long = length-replicate g.row.N Nothing;
  gathered = gathered_none visited c.args.order.now meant Nothing (frame_shows (g.H.Host.errors c.args.host.now)) _ _ refl (λ p lt. ap meant (get_or-replicate g.row.N p Nothing Nothing (let few = c.requires.few in omega arith)));
}

pub offset_bounds-gathered-parent : goal.offset_bounds-gathered-parent
offset_bounds-gathered-parent g c = let h = inside g (goal.at.offset_bounds-gathered-parent g c).In-Some in search rules

pub bounds-gathered-parent : goal.bounds-gathered-parent
bounds-gathered-parent g c = inside g (goal.at.bounds-gathered-parent g c).In-Some

pub offset_bounds-gathered-parent-in-Some : goal.offset_bounds-gathered-parent-in-Some
offset_bounds-gathered-parent-in-Some g c = let h = inside g (goal.at.offset_bounds-gathered-parent-in-Some g c).In-Some in search rules

pub bounds-gathered-parent-in-Some : goal.bounds-gathered-parent-in-Some
bounds-gathered-parent-in-Some g c = inside g (goal.at.bounds-gathered-parent-in-Some g c).In-Some

pub loop-i-preserved-in-Some : goal.loop-i-preserved-in-Some
loop-i-preserved-in-Some g c =
    let v = c.loop-i.invariant in
    let long = v.long in
    let one = c.loop-i-test.true in
    let end = c.loop-i.auto.i in
    let there = inside g (goal.at.loop-i-preserved-in-Some g c).In-Some in
    record {
      low = λ x. omega arith;
      long = length-set _ _ _ ∙ v.long;
      gathered = gathered_more visited c.args.order.now meant Nothing (frame_shows (g.H.Host.errors c.args.host.now)) c.loop-i.i _ c.loop-i.gathered (omega arith) _ v.gathered (omega arith) _ _ _ c.in-Some.is (omega arith) c.frame_seen-seen.ensures c.with.ensures;
    }

pub loop-i-preserved : goal.loop-i-preserved
loop-i-preserved g c =
    let v = c.loop-i.invariant in
    let one = c.loop-i-test.true in
    let end = c.loop-i.auto.i in
    record {
      low = λ x. omega arith;
      long = v.long;
      gathered = gathered_alone visited c.args.order.now meant Nothing (frame_shows (g.H.Host.errors c.args.host.now)) c.loop-i.i _ c.loop-i.gathered (omega arith) _ v.gathered (omega arith) c.in_default.is;
    }

pub bounds-order-0 : goal.bounds-order-0
bounds-order-0 g c = ∥∥₁_elim c.requires.frames le_prop (λ w. some c.args.order.now w.0 w.1)

pub returns : goal.returns
returns g c = λ t is.
    let v = c.loop-i.invariant in
    let low = v.low (some c.args.order.now t is) in
    let end = c.loop-i-test.false in
    c.or.ensures ∙ cause_gathered c.args.order.now t is (g.H.Host.errors c.args.host.now) c.loop-i.i c.loop-i.gathered _ _ v.gathered (omega arith) c.frame_seen.ensures

pub overflow_cast-parent : goal.overflow_cast-parent
overflow_cast-parent g c = let h = inside g (goal.at.overflow_cast-parent g c).In-Some in search rules

pub bounds-gathered-0 : goal.bounds-gathered-0
bounds-gathered-0 g c = ∥∥₁_elim c.requires.frames le_prop (λ w. let n = some c.args.order.now w.0 w.1 in let few = c.requires.few in let long = c.loop-i.invariant.long in omega arith)
