-- How many nodes a report has.
use Rattle.std.proofs.Common.{◌≡◌, ℕ, ◌≤◌, length, Some, ap, arith}
use mathlib.Core.Logic.{∥∥₁_elim}
use native.Mathlib.Bridge.{le_prop}
use Rattle.model.specs.Host.{Errors, Lawful}
use Rattle.trees.specs.Trees.{Tree, frames}
use Rattle.trees.proofs.Numbered.{counted}
use Rattle.nodes.specs.Flattening.{flattening}
use Rattle.frames.specs.declared.store.Frames.{Frames}
use Rattle.frames.specs.Of.{reports_of}
use Rattle.frames.proofs.Placed.{placed_in}
use Rattle.shown_links.proofs.Few.{few_nodes}

pub report_few : (h : Errors) (span : ℕ) → Lawful h span → (s : Frames) (x : ℕ) (t : Tree) → reports_of s x ≡ Some t → length (flattening h t) ≤ 67108864
report_few h span l s x t is =
    ∥∥₁_elim (placed_in s x t is) le_prop (λ k. let n = counted k.0 in let m = ap frames k.1.children in let f = k.1.fits in few_nodes h span l t (omega arith))
