use Rattle.std.proofs.Common.{List, [], ◌∷◌, ◌++◌, sym, subst}
use Rattle.runs.proofs.Runs.{ran_more}
use Rattle.runs.specs.Law.{Ran}
use Rattle.runs.specs.Session.{state_of}
use Rattle.runs.specs.declared.call.Answer.{Answer}
use Rattle.runs.proofs.run.answer_all.Goals as goal

pub loop-event-preserved : goal.loop-event-preserved
loop-event-preserved g c =
    let h = g.H.Host.errors in
    record {
      ran = subst
          (λ (answers : List Answer). Ran (state_of (h c.args.host.now) c.args.session.now) (c.loop-event.yielded ++ c.in-Some.event ∷ []) answers (state_of (h c.answer.new.host) c.answer.new.session))
          (sym c.in_ok-push.ensures.items)
          (ran_more _ c.loop-event.yielded c.loop-event.answers.items _ _ c.in-Some.event c.in_ok-answer.field-0 c.loop-event.invariant.ran c.in_ok-answer.ensures.step);
      stands = c.answer.ensures.stands;
    }
