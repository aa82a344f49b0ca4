use mathlib.Core.Logic.{∥∥₁_map}
use Rattle.rebuilding.proofs.Append.{begun_as, begun_beside}
use Rattle.rebuilding.proofs.build.TreeRow.add_frame.Goals as goal

pub adopt-requires : goal.adopt-requires
adopt-requires c = ∥∥₁_map c.requires.held (λ w.
    (w.0, (w.1.0, (_, (begun_beside _ _ _ _ _ _ (begun_as _ _ _ _ _ _ c.begin.ensures.answer c.unwrap-root.ensures) _ _ w.1.1.0, w.1.1.1)))))

pub append-requires : goal.append-requires
append-requires c = ∥∥₁_map c.requires.held (λ w.
    (w.0, (_, (_, c.adopt.ensures.adopts w.0 w.1.0 _ (begun_beside _ _ _ _ _ _ (begun_as _ _ _ _ _ _ c.begin.ensures.answer c.unwrap-root.ensures) _ _ w.1.1.0) w.1.1.1))))

pub returns-clause-adds : goal.returns-clause-adds
returns-clause-adds c = λ before row w le.
    c.append.ensures.adds before _ _ (c.adopt.ensures.adopts before row _ (begun_beside _ _ _ _ _ _ (begun_as _ _ _ _ _ _ c.begin.ensures.answer c.unwrap-root.ensures) _ _ w) le)
