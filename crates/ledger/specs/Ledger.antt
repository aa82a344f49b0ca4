-- The ledger holds a tree for each report and a row of trees for each basket. It is fed by each call's arguments and
-- answer, and by nothing of the store. A report is known by the number of its root, a basket by that of its first report;
-- an empty basket has none, and its row is empty.
use Rattle.std.specs.Prelude.{◌≡◌, ℕ, ◌+◌, ◌-◌, Some, None, Option, nat_eq}
use Rattle.std.specs.Map.{update}
use Rattle.vocabulary.specs.declared.frame_error.FrameError.{FrameError}
use Rattle.trees.specs.Counting.{in_report, total}
use Rattle.trees.specs.Listings.{bare, children_of}
use Rattle.trees.specs.Trees.{Forest, empty, tree, Tree, ◌then◌, frames, leaf, only}

pub record Ledger : Type 0 where
  pub reports : ℕ → Option Tree
  pub rows : ℕ → Option Forest

-- at first there is nothing
abbrev pub nothing : Ledger
nothing = record { reports = λ _. None; rows = λ _. None }

-- the frames of a row
abbrev pub in_row : Option Forest → ℕ
in_row None = 0
in_row (Some f) = frames f

-- the frames of all trees
abbrev pub used : Ledger → ℕ
used l = total 1024 (λ j. in_report (l.reports j) + in_row (l.rows j))

-- the free frames: 1,024 less the frames of all trees
abbrev pub free : Ledger → ℕ
free l = 1024 - used l

-- a number by which no report and no row is known yet
pub record Fresh (l : Ledger) (n : ℕ) : Type 0 where
  pub report : l.reports n ≡ None
  pub row : l.rows n ≡ None

-- the number by which a row is known: that of its first root, by which nothing was known yet; an empty row has none
abbrev pub Known : Ledger → Forest → Option ℕ → Type 0
Known l empty o = o ≡ None
Known l (tree e p c r) o = (n : ℕ) × (o ≡ Some n) × Fresh l n

-- the trees of a row, none where there is no row
abbrev pub trees_of : Option Forest → Forest
trees_of None = empty
trees_of (Some f) = f

-- the row of a basket
abbrev pub row_of : Ledger → Option ℕ → Forest
row_of l None = empty
row_of l (Some h) = trees_of (l.rows h)

-- the row of one report
abbrev pub alone : Option Tree → Forest
alone None = empty
alone (Some t) = only t

-- a report with more trees as the last children of its root
abbrev pub under : Option Tree → Forest → Option Tree
under None f = None
under (Some t) f = Some (record { error = t.error; place = t.place; children = t.children then f })

-- the first tree of a row, and the others
abbrev pub first_of : Forest → Option Tree
first_of empty = None
first_of (tree e p c r) = Some (record { error = e; place = p; children = c })

abbrev pub rest_of : Forest → Forest
rest_of empty = empty
rest_of (tree e p c r) = r

-- the rows without one, if it is named
abbrev pub without : (ℕ → Option Forest) → Option ℕ → ℕ → Option Forest
without rows None j = rows j
without rows (Some h) j = update nat_eq rows h None j

-- one row more, if it has a number by which it is known
abbrev pub opened : (ℕ → Option Forest) → Option ℕ → Forest → ℕ → Option Forest
opened rows None f j = rows j
opened rows (Some h) f j = update nat_eq rows h (Some f) j

-- what each granted call makes of the ledger; `n` is the root that it gave to a new frame

abbrev pub made : Ledger → FrameError → ℕ → ℕ → Ledger
made l e p n = record { reports = update nat_eq l.reports n (Some (leaf e p)); rows = l.rows }

abbrev pub over : FrameError → ℕ → Option Tree → Option Tree
over e p None = None
over e p (Some t) = Some (record { error = e; place = p; children = only t })

abbrev pub raised : Ledger → ℕ → FrameError → ℕ → ℕ → Ledger
raised l x e p n = record { reports = update nat_eq (update nat_eq l.reports x None) n (over e p (l.reports x)); rows = l.rows }

abbrev pub raised_all : Ledger → Option ℕ → FrameError → ℕ → ℕ → Ledger
raised_all l b e p n =
    record { reports = update nat_eq l.reports n (Some (record { error = e; place = p; children = row_of l b })); rows = without l.rows b }

abbrev pub chained : Ledger → ℕ → ℕ → Ledger
chained l x y = record { reports = update nat_eq (update nat_eq l.reports y None) x (under (l.reports x) (alone (l.reports y))); rows = l.rows }

abbrev pub chained_all : Ledger → ℕ → Option ℕ → Ledger
chained_all l x b = record { reports = update nat_eq l.reports x (under (l.reports x) (row_of l b)); rows = without l.rows b }

-- a basket to which a report is added is known by its first root: its own, or that of the report where it was empty
abbrev pub first_root : Option ℕ → ℕ → ℕ
first_root None x = x
first_root (Some h) x = h

abbrev pub collected : Ledger → Option ℕ → ℕ → Ledger
collected l b x = record {
  reports = update nat_eq l.reports x None;
  rows = opened (without l.rows b) (Some (first_root b x)) (row_of l b then alone (l.reports x));
}

-- the first report of the row known by `h` moves out; the others are then known by `next`
abbrev pub taken : Ledger → ℕ → Option ℕ → Ledger
taken l h next = record {
  reports = update nat_eq l.reports h (first_of (row_of l (Some h)));
  rows = opened (without l.rows (Some h)) next (rest_of (row_of l (Some h)));
}

-- the children of a report's root become a row, known by `head`, and the root a leaf
abbrev pub drained : Ledger → ℕ → Option ℕ → Ledger
drained l x head = record { reports = update nat_eq l.reports x (bare (l.reports x)); rows = opened l.rows head (children_of (l.reports x)) }

-- a chain becomes the report of the tree that flattens to it
abbrev pub rebuilt : Ledger → Tree → ℕ → Ledger
rebuilt l t n = record { reports = update nat_eq l.reports n (Some t); rows = l.rows }

-- a report is gone: discarded, or flattened
abbrev pub discarded : Ledger → ℕ → Ledger
discarded l x = record { reports = update nat_eq l.reports x None; rows = l.rows }

abbrev pub discarded_all : Ledger → Option ℕ → Ledger
discarded_all l b = record { reports = l.reports; rows = without l.rows b }
