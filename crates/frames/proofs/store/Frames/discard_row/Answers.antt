use Rattle.std.proofs.Common.{rules, refl}
use Rattle.layout.specs.Layout.{with_next}
use Rattle.layout.proofs.Free.{freed_from}
use Rattle.layout.proofs.Calls.{free_sound, free_means}
use Rattle.frames.proofs.store.Frames.discard_row.Goals as goal

pub invariant_of-self : goal.invariant_of-self
invariant_of-self c = record { sound = free_sound c.args.self.now.sound c.args.head c.requires _ _ (freed_from c.args.self.now.frames _ _ c.args.head _ _ refl (c.change.ensures (with_next c.args.self.now.free) (λ x y f. search rules)) c.last_root.ensures) c.row_size.ensures }

pub returns : goal.returns
returns c = free_means c.args.self.now.sound c.args.head c.requires _ (freed_from c.args.self.now.frames _ _ c.args.head _ _ refl (c.change.ensures (with_next c.args.self.now.free) (λ x y f. search rules)) c.last_root.ensures)
