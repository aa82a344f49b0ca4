-- How reports, rows and free frames lie in the frames.
use Rattle.std.specs.Prelude.{◌≡◌, ℕ, zero, suc, ◌+◌, ◌<◌, Bool, true, false, cond, List, [], ◌∷◌, length, Some, None, Option, ◌==◌, slice_index_or, slice_set}
use Rattle.vocabulary.specs.declared.frame_error.FrameError.{FrameError}
use Rattle.vocabulary.specs.declared.frame_error.FrameError.TheVariants.{Host}
use Rattle.trees.specs.Trees.{Tree, Listing}
use Rattle.trees.specs.Numbered.{Numbered, none, node, tree_of, listing, size, tally, head_of, last_from, last_of}
use Rattle.layout.specs.declared.frame.Role.{Role}
use Rattle.layout.specs.declared.frame.Role.TheVariants.{Linked, Report, Row}
use Rattle.layout.specs.declared.frame.Frame.{Frame}

abbrev pub blank : Frame
blank = record { error = Host 0; place = 0; first = None; last = None; next = None; size = 0; role = Linked }

-- the frame of a node
abbrev pub frame_of : Role → FrameError → ℕ → Numbered → Numbered → Frame
frame_of s e p k r = record { error = e; place = p; first = head_of k; last = last_of k; next = head_of r; size = size k + 1; role = s }

-- the frames hold a forest, linked from its first node, which has this role
abbrev pub Held : List Frame → Role → Numbered → Type 0
Held fs s none = Unit {0}
Held fs s (node i e p k r) = (i < length fs) × (slice_index_or fs i blank ≡ frame_of s e p k r) × Held fs Linked k × Held fs Linked r

-- a report, or a row of at least one: number, error, place and children of its first root, and the other reports
pub data Block : Type 0 where
  report : ℕ → FrameError → ℕ → Numbered → Block
  row : ℕ → FrameError → ℕ → Numbered → Numbered → Block

abbrev pub nodes : Block → Numbered
nodes (report i e p k) = node i e p k none
nodes (row i e p k r) = node i e p k r

abbrev pub role_of : Block → Role
role_of (report i e p k) = Report
role_of (row i e p k r) = Row (last_from i r) (size (node i e p k r))

abbrev pub Stand : List Frame → List Block → Type 0
Stand fs [] = Unit {0}
Stand fs (b ∷ bs) = Held fs (role_of b) (nodes b) × Stand fs bs

abbrev pub tallies : ℕ → List Block → ℕ
tallies n [] = 0
tallies n (b ∷ bs) = tally n (nodes b) + tallies n bs

abbrev pub sizes : List Block → ℕ
sizes [] = 0
sizes (b ∷ bs) = size (nodes b) + sizes bs

-- the blocks and the free frames fill all frames, each number once; `head` is the first free frame and `count` the number of them
pub record Laid (fs : List Frame) (head : Option ℕ) (count : ℕ) (live : List Block) (free : Numbered) : Type 0 where
  pub stand : Stand fs live
  pub spare : Held fs Linked free
  pub begins : head ≡ head_of free
  pub once : (n : ℕ) → n < 1024 → tallies n live + tally n free ≡ 1
  pub left : size free ≡ count
  pub all : sizes live + size free ≡ 1024
  pub long : length fs ≡ 1024

pub record Layout (fs : List Frame) (head : Option ℕ) (count : ℕ) : Type 0 where
  pub live : List Block
  pub free : Numbered
  pub laid : Laid fs head count live free

abbrev pub Sound : List Frame → Option ℕ → ℕ → Type 0
Sound fs head count = ∥ Layout fs head count ∥₁

-- the report at a root, and the row at its first root, among blocks
abbrev pub report_at : ℕ → List Block → Option Tree
report_at j [] = None
report_at j (report i e p k ∷ bs) = cond (j == i) (Some (tree_of e p k)) (report_at j bs)
report_at j (row i e p k r ∷ bs) = report_at j bs

abbrev pub row_at : ℕ → List Block → Option Listing
row_at j [] = None
row_at j (report i e p k ∷ bs) = row_at j bs
row_at j (row i e p k r ∷ bs) = cond (j == i) (Some (listing (node i e p k r))) (row_at j bs)

-- the frame with another next
abbrev pub with_next : Option ℕ → Frame → Frame
with_next l f = record { error = f.error; place = f.place; first = f.first; last = f.last; next = l; size = f.size; role = f.role }

-- the frame with another role
abbrev pub with_role : Role → Frame → Frame
with_role s f = record { error = f.error; place = f.place; first = f.first; last = f.last; next = f.next; size = f.size; role = s }

-- the frames with one of them changed, if there is one
abbrev pub changed : List Frame → Option ℕ → (Frame → Frame) → List Frame
changed fs None g = fs
changed fs (Some i) g = slice_set fs i (g (slice_index_or fs i blank))

abbrev pub Within : Option ℕ → Type 0
Within None = Unit {0}
Within (Some i) = i < 1024

abbrev pub is_report : Role → Bool
is_report Linked = false
is_report Report = true
is_report (Row l n) = false

abbrev pub is_row : Role → Bool
is_row Linked = false
is_row Report = false
is_row (Row l n) = true

abbrev pub last_root : Role → Option ℕ
last_root Linked = None
last_root Report = None
last_root (Row l n) = Some l

abbrev pub row_size : Role → ℕ
row_size Linked = 0
row_size Report = 0
row_size (Row l n) = n

abbrev pub row_role : Option ℕ → ℕ → Role
row_role None n = Linked
row_role (Some l) n = Row l n

-- the free frames of a new store: those below a number, the last first
unfoldable pub down : ℕ → Numbered
down zero = none
down (suc i) = node i (Host 0) 0 none (down i)
