use Rattle.std.proofs.Common.{◌<◌, length, refl, ap, ◌∙◌, arith, rules}
use Rattle.vocabulary.specs.declared.frame_error.FrameError.{FrameError}
use Rattle.readings.specs.Seen.{Seen, ◌with◌, node_seen}
use Rattle.questions.specs.Noted.{meant}
use Rattle.questions.proofs.Nodes.{begun, inside, noting_alone, noting_cause, noting_more}
use Rattle.questions.proofs.chain.nodes_cause.Given.{Over}
use Rattle.questions.proofs.chain.nodes_cause.Goals.{In-Some}
use Rattle.questions.proofs.chain.nodes_cause.Goals as goal

-- the parent stands in the list
parent : (g : Over) (c : In-Some g) → c.in-Some.parent < length c.loop-i.nodes
parent g c =
    let end = c.loop-i.auto.i in
    let one = c.loop-i-test.true in
    let long = c.loop-i.auto.nodes in
    inside _ _ c.loop-i.nodes _ c.loop-i.invariant _ _ c.requires.flat (omega arith) c.in-Some.is

pub offset_bounds-nodes-parent : goal.offset_bounds-nodes-parent
offset_bounds-nodes-parent g c = let h = parent g (goal.at.offset_bounds-nodes-parent g c).In-Some in search rules

pub bounds-nodes-parent : goal.bounds-nodes-parent
bounds-nodes-parent g c = parent g (goal.at.bounds-nodes-parent g c).In-Some

pub offset_bounds-nodes-parent-in-Some : goal.offset_bounds-nodes-parent-in-Some
offset_bounds-nodes-parent-in-Some g c = let h = parent g (goal.at.offset_bounds-nodes-parent-in-Some g c).In-Some in search rules

pub bounds-nodes-parent-in-Some : goal.bounds-nodes-parent-in-Some
bounds-nodes-parent-in-Some g c = parent g (goal.at.bounds-nodes-parent-in-Some g c).In-Some

pub loop-i-preserved-in-Some : goal.loop-i-preserved-in-Some
loop-i-preserved-in-Some g c =
    let end = c.loop-i.auto.i in
    let one = c.loop-i-test.true in
    let long = c.loop-i.auto.nodes in
    noting_more _ _ c.loop-i.nodes _ c.loop-i.invariant _ (omega arith) (omega arith) (omega arith) _ _ _ c.in-Some.is (parent g (goal.at.loop-i-preserved-in-Some g c).In-Some) refl
    (c.node_seen-seen.ensures ∙ ap (node_seen _ _) c.noted.ensures)
    (c.note.ensures ∙ c.with.ensures ∙ ap (λ (s : Seen FrameError). s with meant c.node_seen-seen.result) c.noted-in-Some.ensures)

pub loop-i-preserved : goal.loop-i-preserved
loop-i-preserved g c =
    let end = c.loop-i.auto.i in
    let one = c.loop-i-test.true in
    let long = c.loop-i.auto.nodes in
    noting_alone _ _ c.loop-i.nodes _ c.loop-i.invariant _ (omega arith) (omega arith) (omega arith) c.in_default.is

pub bounds-nodes-0 : goal.bounds-nodes-0
bounds-nodes-0 g c = begun _ _ c.loop-i.nodes _ c.loop-i.invariant c.requires.flat

pub bounds-nodes-0-2 : goal.bounds-nodes-0-2
bounds-nodes-0-2 g c = begun _ _ c.loop-i.nodes _ c.loop-i.invariant c.requires.flat

pub returns-clause-cause : goal.returns-clause-cause
returns-clause-cause g c = λ t w.
    let v = c.loop-i.invariant in
    let end = c.loop-i-test.false in
    let long = c.loop-i.auto.nodes in
    let low = v.low (let some = begun _ _ c.loop-i.nodes _ c.loop-i.invariant c.requires.flat in omega arith) in
    c.or.ensures ∙ noting_cause _ _ c.loop-i.nodes _ v t w (omega arith) _ (c.node_seen.ensures ∙ ap (node_seen _ _) c.noted-2.ensures)
