-- What the calls between reports and chains answer and leave.
use Rattle.std.specs.Prelude.{◌≡◌, ℕ, ◌+◌, ◌<◌, ◌≤◌, List, ◌++◌, length, take, drop, Some, None, Ok, Err, Option, Result}
use Rattle.vocabulary.specs.declared.fault.StoreFault.{StoreFault}
use Rattle.vocabulary.specs.declared.fault.StoreFault.TheVariants.{NotHeld, Host, NoFrames, ListTooShort, NotFlattening}
use Rattle.model.specs.Host.{Errors, Extends}
use Rattle.trees.specs.Trees.{Tree, frames}
use Rattle.nodes.specs.declared.node.Node.{Node}
use Rattle.nodes.specs.Begins.{FirstBad, Flat, Flattens}
use Rattle.nodes.specs.Check.{explicit_count}
use Rattle.nodes.specs.Flattening.{flattening}
use Rattle.ledger.specs.Causes.{held, list_cause}
use Rattle.ledger.specs.Ledger.{Ledger, Fresh, discarded, free, rebuilt}
use Rattle.store.specs.Calls.{Granted, OpenExn, TurnedDown, report_held}
use Rattle.store.specs.Store.{Became, Holds, NoRoot, ledger_of}
use Rattle.store.specs.declared.chain.ChainedError.{ChainedError}
use Rattle.store.specs.declared.store.Store.{Store}
use Rattle.store.specs.Token.{Exn}
use Rattle.store.specs.declared.token.Refusal.{Refusal}

-- the nodes of a chain, in the list that it is lent
abbrev pub nodes_in : ChainedError → List Node → List Node
nodes_in c list = take c.nodes list

abbrev pub list_cause_of : Errors → Option Tree → ℕ → Option StoreFault
list_cause_of h None room = None
list_cause_of h (Some t) room = list_cause h t room

-- why a report is not flattened into a list with so much room
abbrev pub flatten_cause : Store → Errors → Exn → ℕ → Option StoreFault
flatten_cause s h x room = held (report_held s x) (list_cause_of h ((ledger_of s).reports x.root) room)

-- the report is gone, and its flattening stands at the front of the list; over the host, and over whatever it becomes by
-- gaining errors, the chain is the flattening of the report's tree
pub record ChainOf (before after : Store) (h : Errors) (x : Exn) (list list' : List Node) (c : ChainedError) : Type 0 where
  pub tree : Tree
  pub report : (ledger_of before).reports x.root ≡ Some tree
  pub granted : Granted before after (flatten_cause before h x (length list)) (discarded (ledger_of before) x.root)
  pub nodes : c.nodes ≡ length (flattening h tree)
  pub written : list' ≡ flattening h tree ++ drop c.nodes list
  pub again : (h' : Errors) → Extends h h' → Flattens h' (nodes_in c list') tree

abbrev pub Flattened : Store → Store → Errors → Exn → List Node → List Node → Result ChainedError (Refusal Exn) → Type 0
Flattened before after h x list list' (Ok c) = ChainOf before after h x list list' c
Flattened before after h x list list' (Err t) = TurnedDown before after (flatten_cause before h x (length list)) t.fault × (t.given ≡ x) × (list' ≡ list)

-- a list is the flattening of a tree, with a frame for each node that is no source; it is now a report under a number that
-- was no root, and every other tree flattens otherwise
pub record TreeBuilt (before after : Store) (h : Errors) (xs : List Node) (root : ℕ) : Type 0 where
  pub tree : Tree
  pub flattens : Flattens h xs tree
  pub only : (t : Tree) → flattening h t ≡ xs → t ≡ tree
  pub explicit : frames tree.children + 1 ≡ explicit_count xs
  pub room : frames tree.children + 1 ≤ free (ledger_of before)
  pub fresh : Fresh (ledger_of before) root
  pub no_root : NoRoot before root
  pub became : Became before after (rebuilt (ledger_of before) tree root)

-- it is the flattening of a tree for which fewer frames are free than it needs, which is `n`
pub record TooFew (l : Ledger) (h : Errors) (xs : List Node) (n : ℕ) : Type 0 where
  pub tree : Tree
  pub flattens : Flattens h xs tree
  pub only : (t : Tree) → flattening h t ≡ xs → t ≡ tree
  pub need : n ≡ frames tree.children + 1
  pub few : free l < n

-- it is no flattening, and this is the first index that shows it
pub record NoTree (h : Errors) (xs : List Node) (i : ℕ) : Type 0 where
  pub first : FirstBad h xs i
  pub none : Flat h xs → ⊥

-- why a list is not built into a tree
abbrev pub Unbuilt : Ledger → Errors → List Node → StoreFault → Type 0
Unbuilt l h xs NotHeld = ⊥
Unbuilt l h xs (Host f) = ⊥
Unbuilt l h xs (NoFrames n) = TooFew l h xs n
Unbuilt l h xs (ListTooShort n) = ⊥
Unbuilt l h xs (NotFlattening i) = NoTree h xs i

abbrev pub RootBuilt : Store → Store → Errors → List Node → Result ℕ StoreFault → Type 0
RootBuilt before after h xs (Ok root) = TreeBuilt before after h xs root
RootBuilt before after h xs (Err f) = Unbuilt (ledger_of before) h xs f × (after ≡ before)

-- a chain becomes the report of its tree; or it comes back, and nothing changes
abbrev pub Rebuilt : Store → Store → Errors → ChainedError → List Node → Result Exn (Refusal ChainedError) → Type 0
Rebuilt before after h c list (Ok y) = TreeBuilt before after h (nodes_in c list) y.root × OpenExn before y
Rebuilt before after h c list (Err t) = Unbuilt (ledger_of before) h (nodes_in c list) t.fault × (after ≡ before) × (t.given ≡ c)

-- Of a store that calls have led to, by the ledger that they tell: with frames enough free a chain is built exactly where
-- some tree flattens to it; it becomes that tree, and every other tree flattens otherwise. Else nothing changes.
abbrev pub RebuiltBy : Store → Store → Ledger → Errors → List Node → Result Exn (Refusal ChainedError) → Type 0
RebuiltBy before after l h xs (Ok y) =
    (t : Tree) × Flattens h xs t × ((u : Tree) → flattening h u ≡ xs → u ≡ t) × (frames t.children + 1 ≤ free l) × Fresh l y.root × Holds after (rebuilt l t y.root)
RebuiltBy before after l h xs (Err t) = Unbuilt l h xs t.fault × (after ≡ before)
