use Rattle.std.proofs.Common.{[], ◌∷◌, ◌++◌, Option, refl, ap, ◌∙◌, rules}
use Rattle.vocabulary.specs.declared.kind.Kind.{Kind}
use Rattle.table_host.specs.TableLaws.{pass_more, pass_ends}
use Rattle.table_host.proofs.table.live_kinds.Goals as goal

pub loop-error-preserved : goal.loop-error-preserved
loop-error-preserved c =
    let more = c.in-Some.ensures.goes.on (search rules) in
    let steps = c.in-Some.ensures.steps in (
      more.0,
      more.1,
      pass_more c.args.records.now c.args.size c.loop-error.invariant.2 steps.0.0 steps.0.1 steps.1 steps.2 c.deref.ensures.value refl (c.in_ok-push.ensures.items ∙ ap (λ (k : Option Kind). c.loop-error.kinds.items ++ k ∷ []) c.kind_if_live-kind.ensures),
    )

pub returns : goal.returns
returns c = pass_ends c.args.records.now c.args.size c.loop-error.invariant.2 (λ l. (c.in-None.ensures.steps.0 l).0)
