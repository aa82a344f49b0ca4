use Rattle.std.proofs.Common.{get_or, rules}
use Rattle.layout.specs.Layout.{with_next, blank}
use Rattle.layout.proofs.Free.{begun_from}
use Rattle.layout.proofs.Calls.{full, begin_sound, begin_answer}
use Rattle.frames.proofs.store.Frames.begin.Goals as goal

pub returns-in_err-i-clause-answer : goal.returns-in_err-i-clause-answer
returns-in_err-i-clause-answer c = rw c.from_residual.ensures (full c.args.self.now.sound c.in_err-i.was, search rules)

pub invariant_of-self : goal.invariant_of-self
invariant_of-self c = record {
  sound = begin_sound c.args.self.now.sound c.in_ok-i.i c.in_ok-i.was c.args.error c.args.place _ _
      (begun_from _ _ _ _ _ (c.change.ensures (with_next (get_or c.args.self.now.frames c.in_ok-i.i blank).next) (λ x y f. search rules))) c.or-self.ensures;
}

pub returns-clause-answer : goal.returns-clause-answer
returns-clause-answer c = begin_answer c.args.self.now.sound c.in_ok-i.i c.in_ok-i.was c.args.error c.args.place _
    (begun_from _ _ _ _ _ (c.change.ensures (with_next (get_or c.args.self.now.frames c.in_ok-i.i blank).next) (λ x y f. search rules)))
