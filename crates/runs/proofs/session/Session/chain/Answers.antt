use Rattle.std.proofs.Common.{refl, ap, ◌∙◌, rules}
use Rattle.runs.proofs.session.Session.chain.Goals as goal
use Rattle.runs.proofs.Standing.{chain_stands}
use Rattle.runs.proofs.Handles.{chain_refused, lent_before, lent_handle, report_handle, restored_root, same_parts}
use Rattle.store.specs.Store.{ledger_of}
use Rattle.store.specs.declared.store.Store.{Store}

pub returns-in-Ok-clause-stands : goal.returns-in-Ok-clause-stands
returns-in-Ok-clause-stands c = λ h r. chain_stands h _ _ c.in-Some.report.now c.in_ok-child.child r c.in-Ok.ensures

pub returns-in-Err-clause-step : goal.returns-in-Err-clause-step
returns-in-Err-clause-step c = λ h.
    let s = c.args.self.now in
    let t = c.in_ok-child.ensures in
    let g = c.give_back-in-Err.ensures in
    let l = lent_before s.reports c.take.new.self c.args.name c.args.other c.in-Some.report.now t.names t.tokens t.foreign c.in-Some.ensures in
    let e1 = c.eq.ensures in
    let p = chain_refused h s c.args.name c.args.other c.in-Some.report.now c.in_ok-child.child c.in-Err.refusal.fault (lent_handle h s c.args.name _ l) (report_handle h s c.args.other _ t.token) (λ e. (let f = c.if-eq.false in let g = c.eq.ensures in search rules)) c.in-Err.ensures.0.first in
    let root = restored_root _ _ s.reports.foreign c.take.new.self.foreign _ c.args.other c.in_ok-child.child c.in-Err.refusal.given t.token t.foreign c.in-Err.ensures.1 g.foreign in
    rw g.stop (p.0, p.1, same_parts (ap (λ (z : Store). z.number) c.in-Err.ensures.0.same) refl root (ap ledger_of c.in-Err.ensures.0.same) (ap (λ v. v.items) (g.names ∙ t.names)) refl)
