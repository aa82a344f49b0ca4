-- The nodes of a report: its frames, and beneath each frame the sources of its error, each the child of the one before.
use Rattle.std.specs.Prelude.{ℕ, Bool, true, false, List, [], ◌∷◌}
use Rattle.vocabulary.specs.declared.frame_error.FrameError.{FrameError}
use Rattle.vocabulary.specs.declared.frame_error.FrameError.TheVariants.{Host}
use Rattle.model.specs.Host.{Errors, Live}
use Rattle.model.specs.Sources.{sources}
use Rattle.trees.specs.Trees.{Forest, empty, tree, Tree, only}
use Rattle.nodes.specs.Rows.{Rows, none, node, ◌beside◌}

-- what a node is: its error, the place of the frame that owns it, and whether it is native, that is a source and no frame
pub record Content : Type 0 where
  pub error : FrameError
  pub place : ℕ
  pub native : Bool
  deriving IsSet as Content_is_set

abbrev pub Nodes : Type 0
Nodes = Rows Content

-- a frame as a node
abbrev pub frame : FrameError → ℕ → Content
frame e p = record { error = e; place = p; native = false }

-- a source as a node
abbrev pub source : ℕ → ℕ → Content
source d p = record { error = Host d; place = p; native = true }

-- sources, each the child of the one before
abbrev pub natives : ℕ → List ℕ → Nodes
natives p [] = none
natives p (d ∷ ds) = node (source d p) (natives p ds) none

-- the sources beneath what a frame holds as its error
abbrev pub sources_of : Errors → FrameError → List ℕ
sources_of h (Host e) = sources h e

-- a node's children are its native source first, then the frames beneath it
abbrev pub expand : Errors → Forest → Nodes
expand h empty = none
expand h (tree e p c r) = node (frame e p) (natives p (sources_of h e) beside expand h c) (expand h r)

-- the nodes of a report
abbrev pub nodes_of : Errors → Tree → Nodes
nodes_of h t = expand h (only t)

-- a frame alone: its error and its place
pub record FrameContent : Type 0 where
  pub error : FrameError
  pub place : ℕ
  deriving IsSet as FrameContent_is_set

-- the frames of a forest alone
abbrev pub frame_rows : Forest → Rows FrameContent
frame_rows empty = none
frame_rows (tree e p c r) = node (record { error = e; place = p }) (frame_rows c) (frame_rows r)

-- the frames among nodes
abbrev pub explicit : Nodes → Forest
explicit none = empty
explicit (node v c r) = elim v.native [ true ↦ explicit r | false ↦ tree v.error v.place (explicit c) (explicit r) ]

-- what a frame holds as its error is live in a host
abbrev pub LiveError : Errors → FrameError → Type 0
LiveError h (Host e) = Live h e

abbrev pub LiveForest : Errors → Forest → Type 0
LiveForest h empty = Unit {0}
LiveForest h (tree e p c r) = LiveError h e × LiveForest h c × LiveForest h r

-- a tree over a host: all its errors are live
abbrev pub LiveTree : Errors → Tree → Type 0
LiveTree h t = LiveError h t.error × LiveForest h t.children
