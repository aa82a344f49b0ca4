-- The report of a chain that is all of a list.
use Rattle.std.specs.Prelude.{◌≡◌, ℕ, List, Some, Ok, Err, Result}
use Rattle.std.specs.declared.vec.Vec.{Vec}
use Rattle.std.specs.declared.alloc.Global.{Global}
use Rattle.vocabulary.specs.declared.fault.StoreFault.{StoreFault}
use Rattle.model.specs.Host.{Errors, Extends}
use Rattle.nodes.specs.Begins.{Flattens}
use Rattle.nodes.specs.declared.node.Node.{Node}
use Rattle.store.specs.Calls.{Granted, OpenExn, TurnedDown}
use Rattle.store.specs.Chains.{TreeBuilt, Unbuilt, flatten_cause}
use Rattle.store.specs.Store.{ledger_of}
use Rattle.store.specs.Token.{Exn}
use Rattle.store.specs.declared.store.Store.{Store}
use Rattle.store.specs.declared.token.Refusal.{Refusal}
use Rattle.trees.specs.Trees.{Tree}
use Rattle.nodes.specs.Flattening.{flattening}
use Rattle.ledger.specs.Ledger.{discarded}

-- its list is the flattening of a tree, which is now a report; or nothing changes
abbrev pub BuiltExn : Store → Store → Errors → List Node → Result Exn StoreFault → Type 0
BuiltExn before after h xs (Ok y) = TreeBuilt before after h xs y.root × OpenExn before y
BuiltExn before after h xs (Err f) = Unbuilt (ledger_of before) h xs f × (after ≡ before)

-- the report is gone, and the list is its flattening, over whatever the host becomes by gaining errors
pub record ListOf (before after : Store) (h : Errors) (x : Exn) (room : ℕ) (xs : List Node) : Type 0 where
  pub tree : Tree
  pub report : (ledger_of before).reports x.root ≡ Some tree
  pub granted : Granted before after (flatten_cause before h x room) (discarded (ledger_of before) x.root)
  pub nodes : xs ≡ flattening h tree
  pub again : (h' : Errors) → Extends h h' → Flattens h' xs tree

abbrev pub FlattenedInto : Store → Store → Errors → Exn → ℕ → Result (Vec Node Global) (Refusal Exn) → Type 0
FlattenedInto before after h x room (Ok v) = ListOf before after h x room v.items
FlattenedInto before after h x room (Err t) = TurnedDown before after (flatten_cause before h x room) t.fault × (t.given ≡ x)
