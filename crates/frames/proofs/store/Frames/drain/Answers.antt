use Rattle.std.proofs.Common.{rules}
use Rattle.layout.specs.Layout.{with_role}
use Rattle.layout.proofs.Split.{drained_from}
use Rattle.layout.proofs.Calls.{drain_sound, drain_answer}
use Rattle.frames.proofs.store.Frames.drain.Goals as goal

pub invariant_of-self : goal.invariant_of-self
invariant_of-self c = record { sound = drain_sound c.args.self.now.sound c.args.x c.requires _ (drained_from _ _ _ _ (c.change.ensures (with_role c.of_row-role.result) (λ x y f. search rules)) c.of_row-role.ensures) }

pub returns : goal.returns
returns c = drain_answer c.args.self.now.sound c.args.x c.requires _ (drained_from _ _ _ _ (c.change.ensures (with_role c.of_row-role.result) (λ x y f. search rules)) c.of_row-role.ensures)
