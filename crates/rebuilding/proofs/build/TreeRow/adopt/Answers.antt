use Rattle.std.proofs.Common.{◌≡◌, subst, arith}
use mathlib.Core.Bool.{Bool-set}
use mathlib.Core.HLevel.{⊥_prop}
use mathlib.Core.Logic.{∥∥₁_elim}
use Rattle.frames.specs.Of.{frames_of}
use Rattle.rebuilding.proofs.Adopt.{Adopting, left, head_some, row_there, root_apart, root_there, child_there, adopted, adopting-one}
use Rattle.rebuilding.proofs.build.TreeRow.adopt.Goals as goal

pub unwrap-child-requires : goal.unwrap-child-requires
unwrap-child-requires c = ∥∥₁_elim c.requires (Bool-set _ _) (λ w.
    let a = c.loop.invariant.adopts w.0 w.1.0 w.1.1.0 w.1.1.1.0 w.1.1.1.1 in
    head_some _ _ _ _ _ _ a (left w.1.0 _ _ c.loop-test.true w.1.1.1.1))

pub pop-self-requires : goal.pop-self-requires
pop-self-requires c = ∥∥₁_elim c.requires (Bool-set _ _) (λ w.
    let a = c.loop.invariant.adopts w.0 w.1.0 w.1.1.0 w.1.1.1.0 w.1.1.1.1 in
    row_there _ _ _ _ _ _ a (left w.1.0 _ _ c.loop-test.true w.1.1.1.1) _ c.unwrap-child.ensures)

pub join_first-requires : goal.join_first-requires
join_first-requires c = record {
  first = ∥∥₁_elim c.requires (Bool-set _ _) (λ w.
      let a = c.loop.invariant.adopts w.0 w.1.0 w.1.1.0 w.1.1.1.0 w.1.1.1.1 in
      root_there _ _ _ _ _ _ a (left w.1.0 _ _ c.loop-test.true w.1.1.1.1) _ c.unwrap-child.ensures _ c.pop-self.ensures.means);
  second = ∥∥₁_elim c.requires (Bool-set _ _) (λ w.
      let a = c.loop.invariant.adopts w.0 w.1.0 w.1.1.0 w.1.1.1.0 w.1.1.1.1 in
      child_there _ _ _ _ _ _ a (left w.1.0 _ _ c.loop-test.true w.1.1.1.1) _ c.unwrap-child.ensures _ c.pop-self.ensures.means);
  apart = λ e. ∥∥₁_elim c.requires ⊥_prop (λ w.
      let a = c.loop.invariant.adopts w.0 w.1.0 w.1.1.0 w.1.1.1.0 w.1.1.1.1 in
      root_apart _ _ _ _ _ _ a (left w.1.0 _ _ c.loop-test.true w.1.1.1.1) _ c.unwrap-child.ensures e);
}

pub loop-preserved : goal.loop-preserved
loop-preserved c = record {
  same_frames = c.loop.invariant.same_frames;
  adopts = λ before row t w le.
      let a = c.loop.invariant.adopts before row t w le in
      adopting-one before _ t row _ _ _
      (adopted _ _ _ _ _ _ a (left row _ _ c.loop-test.true le) _ c.unwrap-child.ensures _ c.pop-self.ensures.means _ _ c.join_first.ensures c.pop-self.ensures.answer);
}

pub returns-clause-adopts : goal.returns-clause-adopts
returns-clause-adopts c = λ before row t w le.
    let same : c.loop.counter ≡ c.args.count = omega arith in
    subst (Adopting before c.args.root t row (frames_of c.loop.self.frames.now) c.loop.self.head) same (c.loop.invariant.adopts before row t w le)
