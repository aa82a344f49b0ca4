use Rattle.std.proofs.Common.{Some, [], ◌∷◌, ◌++◌, ap, ◌∙◌, map, ℕ, subst}
use Rattle.std.proofs.lemmas.List.{map-append}
use Rattle.runs.specs.Built.{ListOf}
use Rattle.runs.proofs.session.Session.into_chain.Goals as goal
use Rattle.runs.proofs.Chains.{foreign_stays, items_of, into_chain_step, other_parts}
use Rattle.runs.proofs.Handles.{lent_found, report_handle}
use Rattle.runs.proofs.Keeping.{held_true}
use Rattle.runs.specs.State.{gone}
use Rattle.runs.specs.Tokens.{root_in}

pub returns-in-Ok-clause-step : goal.returns-in-Ok-clause-step
returns-in-Ok-clause-step g c =
    let s = c.args.self.now in
    let h = g.H.Host.errors c.args.host.now in
    let t = c.in_ok-report.ensures in
    let b = subst (λ (n : ℕ). ListOf s.store c.flatten.new.store h c.in_ok-report.report n c.in-Ok.list.items) c.in_ok-list.ensures.len c.in-Ok.ensures.flattened in
    let f = foreign_stays s c.args.name c.in_ok-report.report (held_true _ _ b.granted.free) (lent_found _ _ _ c.args.name c.in_ok-report.report t.token) in
    into_chain_step h s _ c.args.name c.args.room c.in_ok-report.report c.flatten.new.store _ c.in-Ok.list.items (report_handle h s c.args.name c.in_ok-report.report t.token) b (c.len-count.ensures ∙ c.in-Ok.list.ok.0)
    (other_parts (ap root_in (t.foreign ∙ f)) (c.rename.ensures.names ∙ ap (λ v. gone v.items c.args.name) t.names) (ap (map items_of) (c.push_reserved.ensures.items ∙ ap (λ z. z ++ Some c.in-Ok.list ∷ []) c.reserve.ensures.same) ∙ map-append items_of s.chains.items (Some c.in-Ok.list ∷ [])))
