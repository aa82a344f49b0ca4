-- Where the tree of a report lies, for other crates.
use Rattle.std.proofs.Common.{◌≡◌, ℕ, Some}
use Rattle.trees.specs.Trees.{Tree}
use Rattle.trees.specs.Numbered.{Numbered}
use Rattle.layout.specs.Placed.{Placed}
use Rattle.layout.proofs.Calls.{placed}
use Rattle.frames.specs.declared.store.Frames.{Frames}
use Rattle.frames.specs.Of.{frames_of, reports_of}

pub placed_in : (s : Frames) (x : ℕ) (t : Tree) → reports_of s x ≡ Some t → ∥ ((k : Numbered) × Placed (frames_of s) x t k) ∥₁
placed_in s x t e = placed s.sound x t e
