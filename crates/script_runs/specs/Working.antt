-- Where a run stands.
use Rattle.std.specs.Prelude.{◌≡◌, ℕ, List, nat_eq, Some, None, Ok, Err, Option, Result}
use Rattle.std.specs.Map.{update}
use Rattle.drive_host.specs.Drive.{drive_errors}
use Rattle.trees.specs.Trees.{Forest, empty, Tree, ◌then◌, only}
use Rattle.ledger.specs.Ledger.{opened, row_of}
use Rattle.store.specs.Reached.{Reached}
use Rattle.store.specs.Store.{ledger_of}
use Rattle.store.specs.Token.{Basket, Exn}
use Rattle.store.specs.declared.store.Store.{Store}
use Rattle.script_lines.specs.declared.line.Line.{Line}
use Rattle.script_runs.specs.Runs.{Runs}
use Rattle.script_runs.specs.Steps.{step}
use Rattle.script_runs.specs.declared.fault.LineFault.{LineFault}
use Rattle.script_runs.specs.declared.fault.ScriptFault.{ScriptFault}

-- where there is a number, nothing is known by it
abbrev pub Vacant : {A : Type 0} → (ℕ → Option A) → Option ℕ → Type 0
Vacant f None = Unit {0}
Vacant f (Some n) = f n ≡ None

-- an empty basket has no number
abbrev pub Known : Option ℕ → Forest → Type 0
Known None row = row ≡ empty
Known (Some n) row = Unit {0}

-- Calls have led to a store that holds these reports and other rows, and beside them the row of a basket.
pub record Works (s : Store) (b : Basket) (reports : ℕ → Option Tree) (others : ℕ → Option Forest) (row : Forest) : Type 0 where
  pub number : b.store ≡ s.number
  pub ledger : ledger_of s ≡ record { reports = reports; rows = opened others b.root row }
  pub vacant : Vacant others b.root
  pub known : Known b.root row
  pub reached : Reached drive_errors s (ledger_of s)

abbrev pub none : {A : Type 0} → ℕ → Option A
none n = None

-- one report, known by its root
abbrev pub one : ℕ → Tree → ℕ → Option Tree
one x t = update nat_eq none x (Some t)

-- there is nothing but the row of the basket
abbrev pub Rests : Store → Basket → Forest → Type 0
Rests s b row = Works s b none none row

-- there is one report beside it
pub record Out (s : Store) (b : Basket) (x : Exn) : Type 0 where
  pub report : Tree
  pub row : Forest
  pub works : Works s b (one x.root report) none row
  pub number : x.store ≡ s.number

-- the row of a basket
abbrev pub row_in : Store → Basket → Forest
row_in s b = row_of (ledger_of s) b.root

-- the first report comes out of the basket, if there is one
pub record TakenOut (s : Store) (b : Basket) (reports : ℕ → Option Tree) (others : ℕ → Option Forest) (row : Forest) (x : Exn) : Type 0 where
  pub first : Tree
  pub rest : Forest
  pub parts : row ≡ only first then rest
  pub alone : reports x.root ≡ None
  pub number : x.store ≡ s.number
  pub works : Works s b (update nat_eq reports x.root (Some first)) others rest

abbrev pub TakenFrom : Store → Basket → (ℕ → Option Tree) → (ℕ → Option Forest) → Forest → Option Exn → Type 0
TakenFrom s b reports others row None = (row ≡ empty) × Works s b reports others row
TakenFrom s b reports others row (Some x) = TakenOut s b reports others row x

-- a line leads to the next row, or is refused
abbrev pub Steps : ℕ → Line → Forest → Store → Result Basket LineFault → Type 0
Steps place l row s (Ok b) = (next : Forest) × (step place l row ≡ Ok next) × Rests s b next
Steps place l row s (Err f) = step place l row ≡ Err f

-- a second basket, known by another number, holds a row of its own
pub record WorksTwo (s : Store) (b c : Basket) (reports : ℕ → Option Tree) (row children : Forest) : Type 0 where
  pub first : Works s b reports (opened none c.root children) row
  pub second : Works s c reports (opened none b.root row) children

-- the answer of a run: the basket with the row, or the fault
abbrev pub Ran : Store → List ℕ → Result Basket ScriptFault → Type 0
Ran s script (Ok b) = (row : Forest) × Runs script (Ok row) × Rests s b row
Ran s script (Err f) = Runs script (Err f)
