use Rattle.std.proofs.Common.{◌≡◌, ℕ, Option}
use Rattle.std.specs.List.{fold}
use Rattle.model.specs.Judge.{pairs_of}
use Rattle.model.specs.Sources.{chain_from}
use Rattle.host.specs.Findings.{chain_pairs, findings_of}
use Rattle.host.proofs.Chains.{with_pair}
use Rattle.host.proofs.judge.judge_chain.Given as goal

-- the errors so far and those to come make the findings of the chain, and those to come are a chain
abbrev pub invariant-loop-e : goal.invariant-loop-e
invariant-loop-e g l =
    let h = g.H.Host.errors l.host in
    let accepts = g.P.Policy.accepted l.policy in
    (fold (with_pair accepts) l.found (pairs_of h l.e-iterator) ≡ findings_of accepts (chain_pairs h l.error))
    × ((at : Option ℕ) × (l.e-iterator ≡ chain_from h at))
