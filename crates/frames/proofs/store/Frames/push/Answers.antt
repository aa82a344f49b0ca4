use Rattle.std.proofs.Common.{rules, refl, Some}
use Rattle.layout.specs.Layout.{with_next}
use Rattle.layout.proofs.Joins.{pushed_from}
use Rattle.layout.proofs.Calls.{push_sound, push_means}
use Rattle.frames.proofs.store.Frames.push.Goals as goal

pub invariant_of-self : goal.invariant_of-self
invariant_of-self c = record {
  sound = push_sound c.args.self.now.sound c.args.x c.args.head c.requires.live c.requires.begun _
      (pushed_from _ _ _ _ _ _ _ _ refl (c.change.ensures (with_next (Some c.args.x)) (λ x y f. search rules)) refl c.last_root.ensures c.row_size.ensures);
}

pub returns : goal.returns
returns c = push_means c.args.self.now.sound c.args.x c.args.head c.requires.live c.requires.begun _
    (pushed_from _ _ _ _ _ _ _ _ refl (c.change.ensures (with_next (Some c.args.x)) (λ x y f. search rules)) refl c.last_root.ensures c.row_size.ensures)
