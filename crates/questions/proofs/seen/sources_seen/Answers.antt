use Rattle.std.proofs.Common.{◌≡◌, ◌∙◌, rules, tests}
use Rattle.std.proofs.lemmas.Iterator.Adapters.{YieldsList-from_skip}
use Rattle.std.proofs.lemmas.Iterator.Consumers.{YieldsList-at, YieldsList-from_filter, YieldsList-from_first}
use Rattle.host.proofs.Chains.{last_from_yields, the_same}
use Rattle.questions.specs.Noted.{meant}
use Rattle.questions.proofs.Sources.{deepest_seen, none_live, seen_source, unmarked}
use Rattle.questions.proofs.seen.sources_seen.Goals.{In-Ok}
use Rattle.questions.proofs.seen.sources_seen.Goals as goal

pub returns-in_default : goal.returns-in_default
returns-in_default g c = none_live (g.H.Host.errors c.args.host.now) c.args.error c.number.result _ _ c.number.ensures c.in_default.ensures

pub returns : goal.returns
returns g c =
    let host = c.args.host.now in
    let h = g.H.Host.errors host in
    let last = last_from_yields _ c.last.ensures.ran
    (YieldsList-from_filter _ (unmarked h) (YieldsList-at c.filter.ensures.source (YieldsList-from_skip 1 (YieldsList-at c.skip.ensures.source (YieldsList-from_first (λ e. e) (λ rest. rest) _ (the_same (h c.number.result) c.number.result _ _ c.in-Ok.ensures))) c.skip.ensures.count))
    c.filter.ensures.closure (λ x b q k. search (rules, tests))) in
    let found : meant c.map_or.result ≡ seen_source c.last.result = search rules in
    found ∙ deepest_seen h _ (g.met.H.Host.lawful host) c.args.error c.number.result _ c.number.ensures last
