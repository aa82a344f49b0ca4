use Rattle.std.proofs.Common.{List, sym, ap, ◌∙◌}
use Rattle.vocabulary.specs.declared.frame_error.FrameError.{FrameError}
use Rattle.host.specs.declared.judge.Findings.{Findings}
use Rattle.listed_readings.specs.Judged.{judged}
use Rattle.questions.proofs.Findings.{beside, goes_on, next_error, no_error}
use Rattle.questions.proofs.judging.judge.Goals.{in-Some+in_ok-judge_frame, in_default}
use Rattle.questions.proofs.judging.judge.Goals as goal

pub loop-item-preserved : goal.loop-item-preserved
loop-item-preserved g c =
    let h = g.H.Host.errors c.args.host.now in
    let accepts = g.P.Policy.accepted c.args.policy.now in
    let err = g.J.Judged.error_of in
    let asked = sym (ap err c.item-item.is) ∙ sym c.frame_error.ensures in
    elim c.match-frame_error.branch [
      | in-Some+in_ok-judge_frame w ↦
          rw w.found-is
          (ap (λ (k : Findings). beside k (judged h accepts _)) w.both-found.ensures
          ∙ goes_on h accepts c.loop-item.found _ w.in-Some.error _ w.in_ok-judge_frame.ensures
          ∙ ap (λ (es : List FrameError). beside c.loop-item.found (judged h accepts es)) (sym (next_error err c.args.list.now c.loop-item.item-index c.item-item.result c.loop-item-test.true w.in-Some.error (asked ∙ w.in-Some.is)))
          ∙ c.loop-item.invariant)
      | in_default w ↦
          rw w.found-is
          (ap (λ (es : List FrameError). beside c.loop-item.found (judged h accepts es)) (sym (no_error err c.args.list.now c.loop-item.item-index c.item-item.result c.loop-item-test.true (asked ∙ w.in_default.is)))
          ∙ c.loop-item.invariant)
    ]
