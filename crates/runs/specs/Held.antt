-- A report of a store that calls have led to.
use Rattle.std.specs.Prelude.{◌≡◌, ℕ, Err, Some, Result}
use Rattle.vocabulary.specs.declared.fault.StoreFault.{StoreFault}
use Rattle.vocabulary.specs.declared.fault.StoreFault.TheVariants.{ListTooShort}
use Rattle.model.specs.Host.{Errors}
use Rattle.trees.specs.Trees.{Tree}
use Rattle.ledger.specs.Ledger.{Ledger}
use Rattle.store.specs.Reached.{Reached}
use Rattle.store.specs.Token.{Exn}
use Rattle.store.specs.declared.store.Store.{Store}

-- a report that the ledger of the store holds, and its tree there
pub record Held (h : Errors) (s : Store) (x : Exn) (t : Tree) : Type 0 where
  pub ledger : Ledger
  pub reached : Reached h s ledger
  pub store : x.store ≡ s.number
  pub tree : ledger.reports x.root ≡ Some t

-- the number of nodes that a list is refused with
abbrev pub nodes_needed : Result ℕ StoreFault → ℕ
nodes_needed (Err (ListTooShort n)) = n
nodes_needed r = 0
