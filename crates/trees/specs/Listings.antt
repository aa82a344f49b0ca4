-- Joining, taking and draining, on trees and on rows of reports.
use Rattle.std.specs.Prelude.{ℕ, [], ◌∷◌, ◌++◌, Some, None, Option, nat_eq}
use Rattle.std.specs.Map.{update}
use Rattle.trees.specs.Trees.{Forest, empty, Tree, ◌then◌, leaf, Listing, forest}

-- a row of one report, whose root is `x`
abbrev pub alone : ℕ → Option Tree → Option Listing
alone x None = None
alone x (Some t) = Some ((x, t) ∷ [])

-- a report with the reports of a row as the last children of its root
abbrev pub under : Option Tree → Option Listing → Option Tree
under None x = None
under (Some t) None = None
under (Some t) (Some x) = Some (record { error = t.error; place = t.place; children = t.children then forest x })

-- a row with the reports of another after its own
abbrev pub joined : Option Listing → Option Listing → Option Listing
joined None y = None
joined (Some x) None = None
joined (Some x) (Some y) = Some (x ++ y)

-- the first report of a row, and the others
abbrev pub first_of : Option Listing → Option Tree
first_of None = None
first_of (Some []) = None
first_of (Some (x ∷ xs)) = Some x.1

abbrev pub rest_of : Option Listing → Listing
rest_of None = []
rest_of (Some []) = []
rest_of (Some (x ∷ xs)) = xs

-- one row more, if it has any report, known by the root of its first
abbrev pub opened : (ℕ → Option Listing) → Listing → ℕ → Option Listing
opened h [] j = h j
opened h (x ∷ xs) j = update nat_eq h x.0 (Some (x ∷ xs)) j

-- the rows without one, if it is named
abbrev pub without : (ℕ → Option Listing) → Option ℕ → ℕ → Option Listing
without rows None j = rows j
without rows (Some h) j = update nat_eq rows h None j

-- a report without the children of its root
abbrev pub bare : Option Tree → Option Tree
bare None = None
bare (Some t) = Some (leaf t.error t.place)

abbrev pub children_of : Option Tree → Forest
children_of None = empty
children_of (Some t) = t.children
