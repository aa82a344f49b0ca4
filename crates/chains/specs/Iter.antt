-- What the errors of reports and chains are asked for.
use Rattle.std.specs.Prelude.{◌≡◌, ℕ, ◌<◌, ◌≤◌, List, ◌++◌, length, drop, Some, None, Ok, Err, Result}
use Rattle.vocabulary.specs.declared.fault.StoreFault.{StoreFault}
use Rattle.vocabulary.specs.declared.fault.StoreFault.TheVariants.{NotHeld, Host, NoFrames, ListTooShort, NotFlattening}
use Rattle.model.specs.Host.{Errors}
use Rattle.trees.specs.Trees.{Tree}
use Rattle.nodes.specs.declared.node.Node.{Node}
use Rattle.nodes.specs.Begins.{FirstBad, Flattens}
use Rattle.nodes.specs.Flattening.{flattening}
use Rattle.readings.specs.Readings.{errors_of}
use Rattle.store.specs.Chains.{flatten_cause, nodes_in}
use Rattle.store.specs.Store.{ledger_of}
use Rattle.store.specs.declared.chain.ChainedError.{ChainedError}
use Rattle.store.specs.declared.store.Store.{Store}
use Rattle.store.specs.Token.{Exn}
use Rattle.chains.specs.Errors.{shown, unmarked}

-- the errors of a tree that are no markers stand in the list, breadth-first, and these are so many
pub record ErrorsOf (h : Errors) (t : Tree) (list list' : List Node) (n : ℕ) : Type 0 where
  pub count : n ≡ length (unmarked h (errors_of h t))
  pub written : list' ≡ shown (unmarked h (errors_of h t)) (length (flattening h t)) list

-- the flattening of a report stands at the front of the list, and the report stays; refused as a flattening is
abbrev pub ReportNodes : Store → Errors → Exn → List Node → List Node → Result ℕ StoreFault → Type 0
ReportNodes s h x list list' (Ok n) =
    (flatten_cause s h x (length list) ≡ None)
    × ((t : Tree) → (ledger_of s).reports x.root ≡ Some t → (n ≡ length (flattening h t)) × (list' ≡ flattening h t ++ drop n list))
ReportNodes s h x list list' (Err f) = (flatten_cause s h x (length list) ≡ Some f) × (list' ≡ list)

-- of a report: refused as a flattening is
abbrev pub ReportErrors : Store → Errors → Exn → List Node → List Node → Result ℕ StoreFault → Type 0
ReportErrors s h x list list' (Ok n) =
    (flatten_cause s h x (length list) ≡ None) × ((t : Tree) → (ledger_of s).reports x.root ≡ Some t → ErrorsOf h t list list' n)
ReportErrors s h x list list' (Err f) = (flatten_cause s h x (length list) ≡ Some f) × (list' ≡ list)

-- a chain is the flattening of a tree, and there is room
pub record Listable (h : Errors) (xs : List Node) (list list' : List Node) (n : ℕ) : Type 0 where
  pub tree : Tree
  pub flattens : Flattens h xs tree
  pub room : length xs ≤ length list
  pub errors : ErrorsOf h tree list list' n

-- it is the flattening of a tree, and there is no room
pub record NoRoom (h : Errors) (xs : List Node) (list : List Node) (n : ℕ) : Type 0 where
  pub tree : Tree
  pub flattens : Flattens h xs tree
  pub need : n ≡ length xs
  pub short : length list < length xs

-- why the nodes of a chain are not listed
abbrev pub Unlisted : Errors → List Node → List Node → StoreFault → Type 0
Unlisted h xs list NotHeld = ⊥
Unlisted h xs list (Host f) = ⊥
Unlisted h xs list (NoFrames n) = ⊥
Unlisted h xs list (ListTooShort n) = NoRoom h xs list n
Unlisted h xs list (NotFlattening i) = FirstBad h xs i

-- of a chain: refused where it is no flattening, then where there is no room
abbrev pub ChainErrors : ChainedError → Errors → List Node → List Node → List Node → Result ℕ StoreFault → Type 0
ChainErrors c h nodes list list' (Ok n) = Listable h (nodes_in c nodes) list list' n
ChainErrors c h nodes list list' (Err f) = Unlisted h (nodes_in c nodes) list f × (list' ≡ list)
