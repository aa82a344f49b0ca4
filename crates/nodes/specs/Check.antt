-- The check of a list, node by node: what a node has to be, given those before it.
use Rattle.std.specs.Prelude.{◌≡◌, ℕ, ◌+◌, ◌<◌, ◌≤◌, true, false, cond, ◌⊎◌, List, [], ◌∷◌, is_some, Some, None, Option, slice_index_or}
use Rattle.vocabulary.specs.declared.frame_error.FrameError.{FrameError}
use Rattle.vocabulary.specs.declared.frame_error.FrameError.TheVariants.{Host}
use Rattle.model.specs.Host.{Errors}
use Rattle.model.specs.Sources.{source_of}
use Rattle.nodes.specs.declared.node.Node.{Node}
use Rattle.nodes.specs.declared.node.Note.TheVariants.{Clear as NoNote}
use Rattle.nodes.specs.Nodes.{LiveError}

-- stands for the nodes past the end of a list
abbrev pub blank : Node
blank = record { error = Host 0; place = 0; native = false; parent = None; note = NoNote }

-- the node at an index
abbrev pub node_at : List Node → ℕ → Node
node_at xs i = slice_index_or xs i blank

-- the source of what a node holds as its error
abbrev pub error_source : Errors → FrameError → Option ℕ
error_source h (Host e) = source_of (h e)

-- no node from `c` on and before `d` has a source
abbrev pub Sourceless : Errors → List Node → ℕ → ℕ → Type 0
Sourceless h xs c d = (k : ℕ) → c ≤ k → k < d → error_source h (node_at xs k).error ≡ None

-- the first node from `from` on that has a source, or `to` where none before it has
pub record NextSource (h : Errors) (xs : List Node) (from to r : ℕ) : Type 0 where
  pub low : from ≤ r
  pub high : r ≤ to
  pub before : Sourceless h xs from r
  pub here : r < to → is_some (error_source h (node_at xs r).error) ≡ true

-- a node has no note
abbrev pub Clear : Node → Type 0
Clear x = x.note ≡ NoNote

-- a node can be the first
pub record Root (h : Errors) (x : Node) : Type 0 where
  pub clear : Clear x
  pub live : LiveError h x.error
  pub frame : x.native ≡ false
  pub orphan : x.parent ≡ None

-- a source can come at `i`: it is the source of the node `owing`, the first whose source is not listed
pub record SourceFits (h : Errors) (xs : List Node) (i owing : ℕ) (x : Node) : Type 0 where
  pub native : x.native ≡ true
  pub parent : x.parent ≡ Some owing
  pub before : owing < i
  pub source : ((d : ℕ) × (error_source h (node_at xs owing).error ≡ Some d) × (x.error ≡ Host d))
  pub place : x.place ≡ (node_at xs owing).place

-- a frame can come, beneath a frame: parents do not fall, and the sources of the parent and of all before it are listed
pub record FrameFits (xs : List Node) (last owing : ℕ) (x : Node) : Type 0 where
  pub native : x.native ≡ false
  pub parent : ((j : ℕ) × (x.parent ≡ Some j) × (last ≤ j) × (j < owing) × ((node_at xs j).native ≡ false))

-- the node at `i` fits those before it, where the latest has the parent `last`
pub record NodeFits (h : Errors) (xs : List Node) (i last owing : ℕ) : Type 0 where
  pub clear : Clear (node_at xs i)
  pub live : LiveError h (node_at xs i).error
  pub placed : SourceFits h xs i owing (node_at xs i) ⊎ FrameFits xs last owing (node_at xs i)

-- how many nodes are no sources
abbrev pub explicit_count : List Node → ℕ
explicit_count [] = 0
explicit_count (x ∷ xs) = cond x.native (explicit_count xs) (explicit_count xs + 1)
