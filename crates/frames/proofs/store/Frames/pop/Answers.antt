use Rattle.std.proofs.Common.{rules}
use Rattle.layout.specs.Layout.{with_role}
use Rattle.layout.proofs.Split.{popped_from}
use Rattle.layout.proofs.Calls.{pop_sound, pop_means, pop_answer}
use Rattle.frames.proofs.store.Frames.pop.Goals as goal

pub invariant_of-self : goal.invariant_of-self
invariant_of-self c = record {
  sound = pop_sound c.args.self.now.sound c.args.head c.requires _
      (popped_from _ _ _ _ _ _ (c.change.ensures (with_role c.of_row-role.result) (λ x y f. search rules)) c.of_row-role.ensures c.last_root.ensures c.row_size.ensures);
}

pub returns : goal.returns
returns c = record {
  answer = pop_answer c.args.self.now.sound c.args.head c.requires;
  means = pop_means c.args.self.now.sound c.args.head c.requires _
      (popped_from _ _ _ _ _ _ (c.change.ensures (with_role c.of_row-role.result) (λ x y f. search rules)) c.of_row-role.ensures c.last_root.ensures c.row_size.ensures);
}
