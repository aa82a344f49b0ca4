use Rattle.std.proofs.Common.{◌≡◌, List, ap, ◌∙◌, rules, tests}
use Rattle.std.proofs.lemmas.Iterator.{YieldsList-from_map}
use Rattle.std.proofs.lemmas.Iterator.Consumers.{YieldsList-at, YieldsList-from_first, fold_from_yields_List}
use Rattle.std.specs.List.{fold}
use Rattle.vocabulary.specs.declared.policy.Pair.{Pair}
use Rattle.model.specs.Challenge.{beneath, deepest}
use Rattle.model.specs.Judge.{told as told_pair}
use Rattle.model.specs.Sources.{chain_from, source_of}
use Rattle.host.specs.Findings.{chain_pairs}
use Rattle.host.proofs.Chains.{denied_pairs, folded, with_pair}
use Rattle.host.proofs.judge.judge_denied.Goals as goal

pub returns : goal.returns
returns g c =
    let host = c.args.host.now in
    let told = g.H.Host.errors host in
    let accepts = g.P.Policy.accepted c.args.policy.now in
    let e = c.args.error in
    let challenge = c.deepest_of-challenge.result in
    let deepest_beneath : challenge ≡ deepest told (chain_from told (source_of (told e))) = search rules in
    let pairs = denied_pairs told _ (g.met.H.Host.lawful host) e challenge c.requires deepest_beneath in
    let all = fold_from_yields_List _ (with_pair accepts) _ _ c.fold.ensures.ran
    (YieldsList-from_map _ (λ e. told_pair (told e) (beneath challenge e)) (YieldsList-at c.map.ensures.source (YieldsList-from_first (λ e. e) (λ rest. rest) _ c.starting_at.ensures))
    c.map.ensures.closure (λ x r q k. search (rules, tests))) (λ a x b q k. search (rules, tests)) in
    all ∙ ap (λ (ps : List Pair). fold (with_pair accepts) c.args.found ps) pairs ∙ folded accepts c.args.found (chain_pairs told e)
