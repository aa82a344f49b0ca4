-- A session's store stands after each call.
use Rattle.std.proofs.Common.{◌≡◌, ℕ, List, Some, Option, Ok, Result, sym, ap₂, subst}
use mathlib.Core.Path.{fun_ext}
use Rattle.model.specs.Host.{Errors}
use Rattle.trees.specs.Trees.{Forest, Tree}
use Rattle.nodes.specs.declared.node.Node.{Node}
use Rattle.ledger.specs.Ledger.{Ledger}
use Rattle.store.specs.Calls.{Chained, ChainedAll, Collected, Discarded, DiscardedAll, Drained, Made, Raised, RaisedAll, Taken}
use Rattle.store.specs.Chains.{Flattened, Rebuilt}
use Rattle.store.specs.Reached.{Reached}
use Rattle.store.specs.Reached as reached
use Rattle.store.specs.Store.{Holds, ledger_of}
use Rattle.store.specs.Token.{Basket, Exn}
use Rattle.store.specs.declared.chain.ChainedError.{ChainedError}
use Rattle.store.specs.declared.store.Store.{Store}
use Rattle.store.specs.declared.token.Refusal.{Refusal}
use Rattle.runs.specs.Tokens.{Stood}

abbrev pub ledger_with : (ℕ → Option Tree) → (ℕ → Option Forest) → Ledger
ledger_with g h = record { reports = g; rows = h }

pub ledger_same : (s : Store) (l : Ledger) → Holds s l → ledger_of s ≡ l
ledger_same s l h = ap₂ ledger_with (fun_ext h.reports) (fun_ext h.rows)

pub along : (h : Errors) (s : Store) (l : Ledger) → Holds s l → Reached h s l → Stood h s
along h s l e r = subst (λ (m : Ledger). Reached h s m) (sym (ledger_same s l e)) r

module _ (h : Errors) (s s' : Store) where
  pub new_stands : (e p : ℕ) (y : Exn) → Stood h s → Made s s' h e p (Ok y) → Stood h s'
  new_stands e p y r m = along h s' _ m.granted.became.holds (reached.new h s s' (ledger_of s) e p y r m)

  pub raise_stands : (x : Exn) (e p : ℕ) (y : Exn) → Stood h s → Raised s s' h x e p (Ok y) → Stood h s'
  raise_stands x e p y r m = along h s' _ m.granted.became.holds (reached.raise h s s' (ledger_of s) x e p y r m)

  pub raise_all_stands : (b : Basket) (e p : ℕ) (y : Exn) → Stood h s → RaisedAll s s' h b e p (Ok y) → Stood h s'
  raise_all_stands b e p y r m = along h s' _ m.granted.became.holds (reached.raise_all h s s' (ledger_of s) b e p y r m)

  pub chain_stands : (x y : Exn) → Stood h s → Chained s s' x y (Ok tt) → Stood h s'
  chain_stands x y r m = along h s' _ m.became.holds (reached.chain h s s' (ledger_of s) x y r m)

  pub chain_all_stands : (x : Exn) (b : Basket) → Stood h s → ChainedAll s s' x b (Ok tt) → Stood h s'
  chain_all_stands x b r m = along h s' _ m.became.holds (reached.chain_all h s s' (ledger_of s) x b r m)

  pub collect_stands : (b b' : Basket) (x : Exn) → Stood h s → Collected s s' b b' x (Ok tt) → Stood h s'
  collect_stands b b' x r m = along h s' _ m.0.became.holds (reached.collect h s s' (ledger_of s) b b' x r m)

  pub take_stands : (b b' : Basket) (y : Exn) → Stood h s → Taken s s' b b' (Ok (Some y)) → Stood h s'
  take_stands b b' y r m = along h s' _ m.granted.became.holds (reached.take h s s' (ledger_of s) b b' y r m)

  pub drain_stands : (x : Exn) (b : Basket) → Stood h s → Drained s s' x (Ok b) → Stood h s'
  drain_stands x b r m = along h s' _ m.granted.became.holds (reached.drain_children h s s' (ledger_of s) x b r m)

  pub discard_stands : (x : Exn) → Stood h s → Discarded s s' x (Ok tt) → Stood h s'
  discard_stands x r m = along h s' _ m.became.holds (reached.discard h s s' (ledger_of s) x r m)

  pub discard_all_stands : (b : Basket) → Stood h s → DiscardedAll s s' b (Ok tt) → Stood h s'
  discard_all_stands b r m = along h s' _ m.became.holds (reached.discard_all h s s' (ledger_of s) b r m)

  pub into_chain_stands : (x : Exn) (list list' : List Node) (c : ChainedError) → Stood h s → Flattened s s' h x list list' (Ok c) → Stood h s'
  into_chain_stands x list list' c r m = along h s' _ m.granted.became.holds (reached.into_chain h s s' (ledger_of s) x list list' c r m)

  pub into_exn_stands : (c : ChainedError) (list : List Node) (y : Exn) → Stood h s → Rebuilt s s' h c list (Ok y) → Stood h s'
  into_exn_stands c list y r m = along h s' _ m.0.became.holds (reached.into_exn h s s' (ledger_of s) c list y r m)

  pub discard_all_ok : (b : Basket) (r : Result (Unit {0}) (Refusal Basket)) → DiscardedAll s s' b r → r ≡ Ok tt → Stood h s → Stood h s'
  discard_all_ok b r m e q = discard_all_stands b q (subst (DiscardedAll s s' b) e m)
