-- Texts put into the buffer.
use Rattle.std.specs.Prelude.{◌≡◌, ℕ, ◌+◌, ◌<◌, ◌≤◌, List, length, Some, None, Option}
use Rattle.vocabulary.specs.declared.frame_error.FrameError.TheVariants.{Host}
use Rattle.drive_host.specs.Drive.{drive_errors}
use Rattle.trees.specs.Trees.{Tree, leaf}
use Rattle.store.specs.Reached.{Reached}
use Rattle.store.specs.Store.{ledger_of}
use Rattle.store.specs.Token.{Exn}
use Rattle.store.specs.declared.store.Store.{Store}
use Rattle.buffers.specs.Printed.{written}

-- a text is put from a position on, or there is no room for it
abbrev pub PutIf : List ℕ → ℕ → List ℕ → List ℕ → Option ℕ → Type 0
PutIf text at old new (Some to) = (to ≡ at + length text) × (to ≤ length old) × (new ≡ written at text old)
PutIf text at old new None = (length old < at + length text) × (length new ≡ length old)

-- the tree of a report, or any where there is none
abbrev pub or_any : Option Tree → Tree
or_any None = leaf (Host 0) 0
or_any (Some t) = t

abbrev pub tree_in : Store → Exn → Tree
tree_in s x = or_any ((ledger_of s).reports x.root)

-- a report that is out of its basket, in a store that calls have led to
pub record Standing (s : Store) (x : Exn) : Type 0 where
  pub reached : Reached drive_errors s (ledger_of s)
  pub number : x.store ≡ s.number
  pub there : (ledger_of s).reports x.root ≡ Some (tree_in s x)
