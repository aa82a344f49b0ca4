use Rattle.std.proofs.Common.{◌∙◌, refl, rules, tests}
use Rattle.std.proofs.lemmas.Iterator.Consumers.{YieldsList-at, YieldsList-from_filter, YieldsList-from_first}
use Rattle.model.specs.Judge.{is_challenge}
use Rattle.host.proofs.Chains.{deepest_is, last_from_yields}
use Rattle.host.proofs.judge.deepest_of.Goals as goal

pub returns : goal.returns
returns g c =
    let told = g.H.Host.errors c.args.host.now in
    let last = last_from_yields _ c.last.ensures.ran
    (YieldsList-from_filter _ (λ e. is_challenge (told e)) (YieldsList-at c.filter.ensures.source (YieldsList-from_first (λ e. e) (λ rest. rest) _ refl))
    c.filter.ensures.closure (λ x b q k. search (rules, tests))) in
    last ∙ deepest_is told _
