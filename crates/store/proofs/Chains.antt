-- A report's chain.
use Rattle.std.proofs.Common.{◌≡◌, ℕ, Bool, true, List, ◌++◌, length, take, drop, Some, None, Option, sym, refl, ap, ◌∙◌}
use Rattle.std.proofs.lemmas.List.{take_at}
use Rattle.vocabulary.specs.declared.fault.StoreFault.{StoreFault}
use Rattle.model.specs.Host.{Errors, Extends, Lawful}
use Rattle.trees.specs.Trees.{Tree}
use Rattle.nodes.specs.declared.node.Node.{Node}
use Rattle.nodes.specs.Begins.{Flattens}
use Rattle.nodes.specs.Flattening.{flattening}
use Rattle.nodes.specs.Nodes.{LiveTree}
use Rattle.nodes.proofs.Rebuild.{gained, live-gained}
use Rattle.ledger.specs.Causes.{all_live, held, list_cause}
use Rattle.ledger.specs.Ledger.{discarded}
use Rattle.readings.specs.Readings.{errors_of, first_not_live}
use Rattle.readings.proofs.Explicit.{tree_live}
use Rattle.readings.proofs.Laws.{first_not_live_by_frames}
use Rattle.store.specs.Calls.{report_held}
use Rattle.store.specs.Chains.{ChainOf, list_cause_of, nodes_in}
use Rattle.store.specs.Store.{Became, ledger_of}
use Rattle.store.specs.declared.chain.ChainedError.{ChainedError}
use Rattle.store.specs.declared.store.Store.{Store}
use Rattle.store.specs.Token.{Exn}

-- where no cause is left, all errors are live
pub live_since : (h : Errors) (t : Tree) (rest : Option StoreFault) → all_live (first_not_live h (errors_of h t)) rest ≡ None → first_not_live h (errors_of h t) ≡ None
live_since h t rest q = go (first_not_live h (errors_of h t)) q
  where
    go : (o : Option ℕ) → all_live o rest ≡ None → o ≡ None
    go None q = refl
    go (Some e) q = cc

pub live_tree : (h : Errors) (span : ℕ) → Lawful h span → (t : Tree) → first_not_live h (errors_of h t) ≡ None → LiveTree h t
live_tree h span l t q = tree_live h t (sym (first_not_live_by_frames h span l t) ∙ q)

-- what is written is the flattening, over every host that has gained errors
pub chained_again : (h : Errors) (span : ℕ) → Lawful h span → (t : Tree) (c : ChainedError) (list list' : List Node) → list_cause h t (length list) ≡ None → c.nodes ≡ length (flattening h t)
    → list' ≡ flattening h t ++ drop c.nodes list → (h' : Errors) → Extends h h' → Flattens h' (nodes_in c list') t
chained_again h span l t c list list' q n w h' x =
    let v = live_tree h span l t (live_since h t _ q) in
    record {
      live = live-gained h h' x t v;
      lists = gained h h' span l x t v ∙ sym (ap (take c.nodes) w ∙ take_at (flattening h t) (drop c.nodes list) c.nodes (sym n));
    }

pub chain_of : (before after : Store) (h : Errors) (span : ℕ) → Lawful h span → (x : Exn) (list list' : List Node) (c : ChainedError) (t : Tree) → (ledger_of before).reports x.root ≡ Some t → report_held before x ≡ true
    → (list_cause h t (length list) ≡ None) × (c.nodes ≡ length (flattening h t)) × (list' ≡ flattening h t ++ drop c.nodes list)
    → Became before after (discarded (ledger_of before) x.root) → ChainOf before after h x list list' c
chain_of before after h span l x list list' c t e v a b = record {
  tree = t;
  report = e;
  granted = record {
    free = ap (λ (b : Bool). held b (list_cause_of h ((ledger_of before).reports x.root) (length list))) v ∙ ap (λ (o : Option Tree). list_cause_of h o (length list)) e ∙ a.0;
    became = b;
  };
  nodes = a.1;
  written = a.2;
  again = chained_again h span l t c list list' a.0 a.1 a.2;
}
