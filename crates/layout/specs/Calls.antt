-- What the calls do to reports and rows.
use Rattle.std.specs.Prelude.{◌≡◌, ℕ, ◌<◌, true, false, List, [], ◌++◌, Some, None, Option, nat_eq}
use Rattle.std.specs.Map.{update}
use Rattle.trees.specs.Trees.{leaf, Listing, forest, among, first_root, list_of}
pub use Rattle.trees.specs.Listings.{alone, under, joined, first_of, rest_of, opened, without, bare, children_of}
use Rattle.vocabulary.specs.declared.frame_error.FrameError.{FrameError}
use Rattle.trees.specs.Counting.{unused}
use Rattle.layout.specs.declared.frame.Frame.{Frame}
use Rattle.layout.specs.Reports.{reports, rows, Means}

-- a number that is the root of no report, alone or in a row
pub record Fresh (fs : List Frame) (n : ℕ) : Type 0 where
  pub report : reports fs n ≡ None
  pub row : (h : ℕ) → among n (list_of (rows fs h)) ≡ false

-- the row that an answer names
abbrev pub taken : List Frame → Option ℕ → Listing
taken fs None = []
taken fs (Some n) = list_of (rows fs n)

-- and with one report more at its end
abbrev pub with_last : List Frame → Option ℕ → ℕ → Listing
with_last fs head x = taken fs head ++ list_of (alone x (reports fs x))

-- the children of the root at `x` are a row that the answer names, under numbers that were no roots, and the root is a leaf
pub record Drained (before after : List Frame) (x : ℕ) (answer : Option ℕ) : Type 0 where
  pub children : forest (taken after answer) ≡ children_of (reports before x)
  pub first : answer ≡ first_root (taken after answer)
  pub fresh : (n : ℕ) → among n (taken after answer) ≡ true → Fresh before n
  pub means : Means after (update nat_eq (reports before) x (bare (reports before x))) (opened (rows before) (taken after answer))

-- there was a free frame, and now it is a report of one
pub record Begun (before after : List Frame) (error : FrameError) (place n : ℕ) : Type 0 where
  pub room : 0 < unused (reports before) (rows before)
  pub below : n < 1024
  pub fresh : Fresh before n
  pub means : Means after (update nat_eq (reports before) n (Some (leaf error place))) (rows before)

-- refused exactly where no frame is free
abbrev pub BeginAnswer : List Frame → List Frame → FrameError → ℕ → Option ℕ → Type 0
BeginAnswer before after error place None = (unused (reports before) (rows before) ≡ 0) × (after ≡ before)
BeginAnswer before after error place (Some n) = Begun before after error place n
