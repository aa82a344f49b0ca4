use Rattle.std.proofs.Common.{◌≡◌, ℕ, true, Result, ap, ◌∙◌, sym, refl, rules, subst}
use Rattle.std.proofs.lemmas.Bool.{and_parts}
use Rattle.vocabulary.specs.declared.fault.StoreFault.{StoreFault}
use Rattle.ledger.specs.Ledger.{discarded}
use Rattle.traversal.specs.Report.{ListedInto}
use Rattle.trees.proofs.Options.{there}
use Rattle.store.proofs.Accepted.{made_ok}
use Rattle.store.proofs.Chains.{chain_of}
use Rattle.store.proofs.Rows.{holds_as}
use Rattle.store.specs.Calls.{report_held}
use Rattle.store.specs.Store.{Became, ledger_of}
use Rattle.store.specs.Token.{Exn}
use Rattle.store.specs.declared.store.Store.{Store}
use Rattle.store.proofs.chain.Token+u16.into_chain.Goals as goal

pub returns : goal.returns
returns g c =
    let was : Store = c.args.store.now in
    let host = c.args.host.now in
    let l = ledger_of was in
    let x : Exn = c.args.self in
    let v : report_held was x ≡ true = search rules in
    let same : c.in_ok-report.report ≡ x = search rules in
    let t = there (l.reports x.root) (and_parts _ _ v).1 in
    let m = made_ok _ _ _ _ _ c.beside.ensures c.in_ok-nodes.was in
    let listed = subst (λ (r : Result ℕ StoreFault). ListedInto (g.H.Host.errors host) t.0 c.args.list.now c.flatten_report-flattened.new.list r) m.0 (c.flatten_report-flattened.ensures t.0 (ap (λ (y : Exn). l.reports y.root) same ∙ t.1)) in
    let root : c.spend.result ≡ x.root = c.spend.ensures ∙ ap (λ (y : Exn). y.root) (sym m.1 ∙ same) in
    chain_of was _ (g.H.Host.errors host) _ (g.met.H.Host.lawful host) x c.args.list.now _ _ t.0 t.1 v listed
    (subst (λ (r : ℕ). Became was (record { number = was.number; frames = c.discard.new.self }) (discarded l r)) root (record { number = refl; holds = holds_as _ _ _ _ c.discard.ensures (λ j. refl) (λ j. refl) }))
