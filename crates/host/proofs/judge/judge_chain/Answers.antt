use Rattle.std.proofs.Common.{◌≡◌, ℕ, Some, Ok, None, false, List, ap, sym, ◌∙◌, rules}
use Rattle.std.specs.List.{fold}
use Rattle.vocabulary.specs.declared.policy.Pair.{Pair}
use Rattle.model.specs.Judge.{challenge_beneath, pair_of, pairs_of}
use Rattle.model.specs.Sources.{chain, source_of}
use Rattle.host.specs.Findings.{chain_pairs, is_denied}
use Rattle.host.specs.declared.judge.Findings.{Findings}
use Rattle.host.proofs.Chains.{chain_goes, constantly, folded, the_same, undenied, with_pair}
use Rattle.host.proofs.judge.judge_chain.Goals as goal

pub loop-e-init : goal.loop-e-init
loop-e-init g c =
    let h = g.H.Host.errors c.args.host.now in
    let accepts = g.P.Policy.accepted c.args.policy.now in
    let none : c.default-found.result ≡ record { class = None; accepted = false } = search rules in
    let all : c.into_iter-e-iterator.result ≡ chain h c.args.error = c.into_iter-e-iterator.ensures.into_iter_gives ∙ the_same (h c.args.error) c.args.error _ _ c.in_ok-e-items.ensures in (
      ap (λ (es : List ℕ). fold (with_pair accepts) c.default-found.result (pairs_of h es)) all
          ∙ ap (λ (f : Findings). fold (with_pair accepts) f (chain_pairs h c.args.error)) none
          ∙ folded accepts (record { class = None; accepted = false }) (chain_pairs h c.args.error),
      (Some c.args.error, all),
    )

pub loop-e-preserved : goal.loop-e-preserved
loop-e-preserved g c =
    let host = c.args.host.now in
    let h = g.H.Host.errors host in
    let accepts = g.P.Policy.accepted c.args.policy.now in
    let e = c.in-Some.e in
    let to_come = c.loop-e.invariant.1 in
    let pair : c.pair_in_chain-pair.result ≡ pair_of h e =
    c.pair_in_chain-pair.ensures ∙ undenied (h e) (challenge_beneath h e) (ap (λ (p : Pair). is_denied p) (sym c.pair_in_chain-pair.ensures) ∙ sym c.is_denied.ensures ∙ c.if-is_denied.false) in
    let step : c.with-found.result ≡ with_pair accepts c.loop-e.found (pair_of h e) = search rules in
    let goes = chain_goes h _ (g.met.H.Host.lawful host) to_come.0 e c.next.new.self (sym c.in-Some.ensures.steps ∙ to_come.1) in (
      ap (λ (f : Findings). fold (with_pair accepts) f (pairs_of h c.next.new.self)) step
          ∙ ap (λ (es : List ℕ). fold (with_pair accepts) c.loop-e.found (pairs_of h es)) (sym c.in-Some.ensures.steps)
          ∙ c.loop-e.invariant.0,
      (source_of (h e), goes.later),
    )

pub returns-then-is_denied : goal.returns-then-is_denied
returns-then-is_denied g c =
    let host = c.args.host.now in
    let h = g.H.Host.errors host in
    let accepts = g.P.Policy.accepted c.args.policy.now in
    let e = c.in-Some.e in
    let to_come = c.loop-e.invariant.1 in
    let goes = chain_goes h _ (g.met.H.Host.lawful host) to_come.0 e c.next.new.self (sym c.in-Some.ensures.steps ∙ to_come.1) in
    let all =
    c.judge_denied.ensures ∙ sym (folded accepts c.loop-e.found (chain_pairs h e))
    ∙ ap (λ (es : List ℕ). fold (with_pair accepts) c.loop-e.found (pairs_of h es)) (sym goes.whole ∙ sym c.in-Some.ensures.steps)
    ∙ c.loop-e.invariant.0 in
    ap Ok all ∙ constantly (h c.args.error) c.args.error _ _ _ c.in_ok-e-items.ensures

pub returns : goal.returns
returns g c =
    let h = g.H.Host.errors c.args.host.now in
    let accepts = g.P.Policy.accepted c.args.policy.now in
    let all = sym (ap (λ (es : List ℕ). fold (with_pair accepts) c.loop-e.found (pairs_of h es)) c.in-None.ensures.steps.0) ∙ c.loop-e.invariant.0 in
    ap Ok all ∙ constantly (h c.args.error) c.args.error _ _ _ c.in_ok-e-items.ensures
