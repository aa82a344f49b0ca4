use Rattle.std.proofs.Common.{rules, refl, Some}
use Rattle.layout.specs.Layout.{with_next}
use Rattle.layout.proofs.Joins.{joined_from}
use Rattle.layout.proofs.Calls.{join_sound, join_means}
use Rattle.frames.proofs.store.Frames.join_row.Goals as goal

pub invariant_of-self : goal.invariant_of-self
invariant_of-self c = record {
  sound = join_sound c.args.self.now.sound c.args.x c.args.head c.requires.live c.requires.begun _
      (joined_from _ _ _ _ _ _ _ _ refl (c.change.ensures (with_next (Some c.args.head)) (λ x y f. search rules)) c.or.ensures c.last_root.ensures c.row_size.ensures);
}

pub returns : goal.returns
returns c = join_means c.args.self.now.sound c.args.x c.args.head c.requires.live c.requires.begun _
    (joined_from _ _ _ _ _ _ _ _ refl (c.change.ensures (with_next (Some c.args.head)) (λ x y f. search rules)) c.or.ensures c.last_root.ensures c.row_size.ensures)
