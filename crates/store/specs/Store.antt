-- What a store holds: its ledger.
use Rattle.std.specs.Prelude.{◌≡◌, ℕ, Bool, Some, None, Option}
use Rattle.trees.specs.Trees.{Forest, Listing, among, forest}
use Rattle.layout.specs.Calls.{Fresh, taken}
use Rattle.frames.specs.Of.{frames_of, reports_of, rows_of}
use Rattle.ledger.specs.Ledger.{Ledger}
use Rattle.store.specs.declared.store.Store.{Store}

-- the trees of a row, without the numbers of their roots
abbrev pub trees_in : Option Listing → Option Forest
trees_in None = None
trees_in (Some x) = Some (forest x)

abbrev pub ledger_of : Store → Ledger
ledger_of s = record { reports = reports_of s.frames; rows = λ j. trees_in (rows_of s.frames j) }

-- a store holds what a ledger says: every report's tree and every basket's row
pub record Holds (s : Store) (l : Ledger) : Type 0 where
  pub reports : (j : ℕ) → (ledger_of s).reports j ≡ l.reports j
  pub rows : (j : ℕ) → (ledger_of s).rows j ≡ l.rows j

-- the store after a call: its number stays, and it holds what the ledger then says
pub record Became (before after : Store) (l : Ledger) : Type 0 where
  pub number : after.number ≡ before.number
  pub holds : Holds after l

-- A number that is the root of no report of a store: of none alone, and of none in a row, at whatever place. The ledger,
-- which knows no numbers of the reports in a row, says this of a row's first report alone.
abbrev pub NoRoot : Store → ℕ → Type 0
NoRoot s n = Fresh (frames_of s.frames) n

-- whether a number is the root of a report in the row that is known by another, at whatever place
abbrev pub is_in_row : Store → Option ℕ → ℕ → Bool
is_in_row s o n = among n (taken (frames_of s.frames) o)
