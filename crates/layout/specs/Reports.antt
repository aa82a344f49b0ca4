-- What the frames mean: the tree of each report, and the trees of each row.
use Rattle.std.specs.Prelude.{◌≡◌, ℕ, zero, suc, List, [], ◌∷◌, Some, None, Option, slice_index_or}
use Rattle.trees.specs.Trees.{Forest, empty, tree, Tree, Listing}
use Rattle.layout.specs.declared.frame.Role.{Role}
use Rattle.layout.specs.declared.frame.Role.TheVariants.{Linked, Report, Row}
use Rattle.layout.specs.declared.frame.Frame.{Frame}
use Rattle.layout.specs.Layout.{blank}

-- the forest that is linked from a frame, at most so many steps deep
unfoldable pub read : ℕ → List Frame → Option ℕ → Forest
read zero fs l = empty
read (suc n) fs None = empty
read (suc n) fs (Some i) =
    tree (slice_index_or fs i blank).error (slice_index_or fs i blank).place (read n fs (slice_index_or fs i blank).first) (read n fs (slice_index_or fs i blank).next)

unfoldable pub tree_at : List Frame → ℕ → Tree
tree_at fs i = record { error = (slice_index_or fs i blank).error; place = (slice_index_or fs i blank).place; children = read 1024 fs (slice_index_or fs i blank).first }

-- the reports whose roots are linked from a frame, at most so many
unfoldable pub read_row : ℕ → List Frame → Option ℕ → Listing
read_row zero fs l = []
read_row (suc n) fs None = []
read_row (suc n) fs (Some i) = (i, tree_at fs i) ∷ read_row n fs (slice_index_or fs i blank).next

abbrev pub if_report : Role → Tree → Option Tree
if_report Linked t = None
if_report Report t = Some t
if_report (Row l n) t = None

abbrev pub if_row : Role → Listing → Option Listing
if_row Linked x = None
if_row Report x = None
if_row (Row l n) x = Some x

-- the report in no row that has this root
unfoldable pub reports : List Frame → ℕ → Option Tree
reports fs i = if_report (slice_index_or fs i blank).role (tree_at fs i)

-- the row whose first report has this root
unfoldable pub rows : List Frame → ℕ → Option Listing
rows fs i = if_row (slice_index_or fs i blank).role (read_row 1024 fs (Some i))

-- the frames mean these reports and rows
pub record Means (fs : List Frame) (g : ℕ → Option Tree) (h : ℕ → Option Listing) : Type 0 where
  pub reports : (j : ℕ) → reports fs j ≡ g j
  pub rows : (j : ℕ) → rows fs j ≡ h j
