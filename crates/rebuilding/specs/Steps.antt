-- What the steps of a rebuilding do to reports and rows.
use Rattle.std.specs.Prelude.{◌≡◌, ℕ, ◌+◌, ◌-◌, ◌<◌, ◌≤◌, true, false, List, [], ◌∷◌, ◌++◌, reverse, take, drop, Some, None, Option, nat_eq}
use Rattle.std.specs.Map.{update}
use Rattle.model.specs.Host.{Errors}
use Rattle.trees.specs.Counting.{unused}
use Rattle.trees.specs.Listings.{opened}
use Rattle.trees.specs.Trees.{Tree, frames, only, ◌then◌, Listing, forest, among, first_root}
use Rattle.layout.specs.declared.frame.Frame.{Frame}
use Rattle.layout.specs.Reports.{reports, rows, Means}
use Rattle.layout.specs.Calls.{Fresh}
use Rattle.nodes.specs.declared.node.Node.{Node}
use Rattle.nodes.specs.Begins.{Flattens}
use Rattle.nodes.specs.Breadth.{is_parent}
use Rattle.nodes.specs.Check.{node_at, explicit_count}
use Rattle.rebuilding.specs.declared.build.Children.{Children}

-- a report with another as the first child of its root
abbrev pub with_first : Option Tree → Option Tree → Option Tree
with_first None y = None
with_first (Some t) None = None
with_first (Some t) (Some u) = Some (record { error = t.error; place = t.place; children = only u then t.children })

-- a tree with the reports of a row, the last of them first, as the first children of its root
abbrev pub adopting : Tree → Listing → Tree
adopting t row = record { error = t.error; place = t.place; children = forest (reverse row) then t.children }

-- the number of a frame that was the root of no report
pub record New (before : List Frame) (n : ℕ) : Type 0 where
  pub below : n < 1024
  pub fresh : Fresh before n

-- one row more than before, if it has any report, known by the root of its first
pub record WithRow (before after : List Frame) (head : Option ℕ) (row : Listing) : Type 0 where
  pub first : head ≡ first_root row
  pub new : (n : ℕ) → among n row ≡ true → New before n
  pub means : Means after (reports before) (opened (rows before) row)

-- and one report more, in no row
pub record WithReport (before after : List Frame) (head : Option ℕ) (row : Listing) (x : ℕ) (t : Tree) : Type 0 where
  pub first : head ≡ first_root row
  pub new : (n : ℕ) → among n row ≡ true → New before n
  pub root : New before x
  pub apart : among x row ≡ false
  pub means : Means after (update nat_eq (reports before) x (Some t)) (opened (rows before) row)

-- a tree is the last of a row that is one row more than before
pub record Added (before after : List Frame) (row : Listing) (t : Tree) (head : Option ℕ) : Type 0 where
  pub root : ℕ
  pub held : WithRow before after head (row ++ (root, t) ∷ [])

-- the last nodes before `end` whose parent is the node `i`: where they begin, and how many of them are frames
pub record Found (nodes : List Node) (i end : ℕ) (r : Children) : Type 0 where
  pub low : i < r.start
  pub high : r.start ≤ end
  pub are : (k : ℕ) → r.start ≤ k → k < end → is_parent i (node_at nodes k).parent ≡ true
  pub ends : i + 1 < r.start → is_parent i (node_at nodes (r.start - 1)).parent ≡ false
  pub frames : r.frames ≡ explicit_count (take (end - r.start) (drop r.start nodes))

-- a list is the flattening of a tree whose frames are free
pub record Fits (h : Errors) (nodes : List Node) (t : Tree) (fs : List Frame) : Type 0 where
  pub flattens : Flattens h nodes t
  pub room : frames t.children + 1 ≤ unused (reports fs) (rows fs)

-- a tree is one report more than before
pub record Built (before after : List Frame) (root : ℕ) (t : Tree) : Type 0 where
  pub below : root < 1024
  pub fresh : Fresh before root
  pub means : Means after (update nat_eq (reports before) root (Some t)) (rows before)
