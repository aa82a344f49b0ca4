-- How many frames reports and rows take.
use Rattle.std.specs.Prelude.{ℕ, zero, suc, ◌+◌, ◌-◌, Some, None, Option}
use Rattle.trees.specs.Trees.{Tree, frames, Listing, forest}

abbrev pub in_report : Option Tree → ℕ
in_report None = 0
in_report (Some t) = frames t.children + 1

abbrev pub in_row : Option Listing → ℕ
in_row None = 0
in_row (Some x) = frames (forest x)

-- the sum over the numbers below `n`
unfoldable pub total : ℕ → (ℕ → ℕ) → ℕ
total zero f = 0
total (suc n) f = total n f + f n

-- the frames of all reports and rows
abbrev pub used : (ℕ → Option Tree) → (ℕ → Option Listing) → ℕ
used g h = total 1024 (λ j. in_report (g j) + in_row (h j))

-- the free frames
abbrev pub unused : (ℕ → Option Tree) → (ℕ → Option Listing) → ℕ
unused g h = 1024 - used g h
