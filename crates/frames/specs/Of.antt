-- What a store of frames means, for other crates.
use Rattle.std.specs.Prelude.{ℕ, List, Option}
use Rattle.trees.specs.Trees.{Tree, Listing}
use Rattle.trees.specs.Counting.{unused}
use Rattle.layout.specs.declared.frame.Frame.{Frame}
use Rattle.frames.specs.declared.store.Frames.{Frames}
use Rattle.layout.specs.Reports.{reports, rows}

abbrev pub frames_of : Frames → List Frame
frames_of s = s.frames

abbrev pub reports_of : Frames → ℕ → Option Tree
reports_of s = reports s.frames

abbrev pub rows_of : Frames → ℕ → Option Listing
rows_of s = rows s.frames

-- the number of free frames
abbrev pub free_of : Frames → ℕ
free_of s = unused (reports_of s) (rows_of s)
