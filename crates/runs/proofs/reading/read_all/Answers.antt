use Rattle.std.proofs.Common.{ℕ, ◌<◌, List, [], ◌∷◌, take, length, get_or, ◌++◌, Option, None, sym, ap, subst₂, ◌∙◌, take-suc, add-one, arith}
use Rattle.runs.proofs.Runs.{read_more}
use Rattle.runs.specs.Law.{AllRead}
use Rattle.runs.specs.Session.{state_of}
use Rattle.runs.specs.declared.call.Reading.{Reading}
use Rattle.runs.proofs.reading.read_all.Goals as goal

pub loop-root-preserved : goal.loop-root-preserved
loop-root-preserved g c =
    let st = state_of (g.H.Host.errors c.args.host.now) c.args.session.now in
    let names = c.args.session.now.reports.names.items in
    let i = c.loop-root.root-index in
    let lt : i < length names = let v = ap length c.deref-root-items.ensures.value in let t = c.loop-root-test.true in omega arith in
    subst₂ (λ (ns : List (Option ℕ)) (os : List (Option Reading)). AllRead st (g.P.Policy.accepted c.args.policy.now) ns os)
    (ap (λ (xs : List (Option ℕ)). take i names ++ (get_or xs i None ∷ [])) c.deref-root-items.ensures.value ∙ sym (take-suc names i None lt) ∙ ap (λ (k : ℕ). take k names) (sym (add-one i)))
    (sym c.in_ok-push.ensures.items)
    (read_more st (g.P.Policy.accepted c.args.policy.now) _ _ _ _ c.loop-root.invariant c.in_ok-read_named.ensures)
