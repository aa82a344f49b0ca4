use Rattle.std.proofs.Common.{◌≡◌, None, Some, map, refl, ap, ◌∙◌}
use Rattle.std.proofs.lemmas.List.{map-set}
use Rattle.runs.specs.Tokens.{root_in}
use Rattle.runs.proofs.session.Session.into_exn.Goals as goal
use Rattle.runs.proofs.Chains.{chain_at, other_parts, into_exn_step, items_of}
use Rattle.runs.specs.State.{and_named, named}
use Rattle.runs.proofs.Keeping.{fresh_below, fresh_keeps, rows_stay}

pub add-requires-clause-within : goal.add-requires-clause-within
add-requires-clause-within g c = let b = c.in_ok-report.ensures.built.0 in fresh_below _ _ _ c.in_ok-report.report b.tree b.became (λ j. refl)

pub invariant_of-self-2-clause-reports_kept : goal.invariant_of-self-2-clause-reports_kept
invariant_of-self-2-clause-reports_kept g c =
    let b = c.in_ok-report.ensures.built in fresh_keeps _ _ _ c.in_ok-report.report b.0.tree b.0.became (λ j. refl) b.1 c.args.self.now.reports.table c.args.self.now.reports_kept _ c.add.ensures.tokens

pub invariant_of-self-2-clause-baskets_kept : goal.invariant_of-self-2-clause-baskets_kept
invariant_of-self-2-clause-baskets_kept g c = rows_stay _ _ _ _ c.in_ok-report.ensures.built.0.became (λ j. refl) c.args.self.now.baskets_kept

pub returns-clause-step : goal.returns-clause-step
returns-clause-step g c =
    let s = c.args.self.now in
    let i = c.in-Some-Some in
    let n : named (map items_of s.chains.items) c.args.chain ≡ Some c.deref-2.result.now =
    chain_at s.chains.items c.deref.result.now c.args.chain i.field-0.now i.list c.deref-2.result.now c.deref.ensures.value i.ensures.lookup.3.0 i.ensures.lookup.3.1 i.field-0-is c.deref-2.ensures.value in
    into_exn_step (g.H.Host.errors c.args.host.now) s _ c.args.chain c.deref-2.result.now c.build.new.store c.in_ok-report.report.root _ n c.in_ok-report.ensures.built.0 c.add.ensures.root c.add.ensures.below
    (other_parts (ap root_in c.add.ensures.foreign) (c.add.ensures.names ∙ ap (λ z. and_named z c.in_ok-report.report.root) c.reserve.ensures.same) (map-set items_of s.chains.items c.args.chain None))
