-- The steps of a flattening: the list is its own queue, and the order says which frames come next.
use Rattle.std.specs.Prelude.{◌≡◌, ℕ, ◌+◌, ◌≤◌, false, List, [], ◌∷◌, ◌++◌, map, length, drop, Some, None, Option, slice_index_or}
use Rattle.vocabulary.specs.declared.frame_error.FrameError.{FrameError}
use Rattle.vocabulary.specs.FrameError.{error_number}
use Rattle.model.specs.Host.{Errors}
use Rattle.model.specs.Sources.{source_of, sources}
use Rattle.trees.specs.Trees.{Forest, empty, tree, Tree}
use Rattle.nodes.specs.declared.node.Node.{Node}
use Rattle.nodes.specs.Rows.{◌beside◌, count}
use Rattle.nodes.specs.Breadth.{Item, Entry, item, under, below, is_parent}
use Rattle.nodes.specs.Flattening.{frame_list, listed}
use Rattle.nodes.specs.Nodes.{Content, FrameContent, expand, frame, frame_rows, natives, nodes_of, source, sources_of}
use Rattle.nodes.specs.Queue.{queue, weight}
use Rattle.traversal.specs.declared.flatten.Progress.{Progress}
use Rattle.traversal.specs.Put.{Put}
use Rattle.traversal.specs.Start.{blank_node}

-- a node that stands in the list and whose children do not yet: a source, by its parent's index, error and place; or a
-- frame, by its parent's index in the list and in the order, its error and place and the frames beneath it
pub data Wait : Type 0 where
  of_source : Option ℕ → ℕ → ℕ → Wait
  of_frame : Option ℕ → Option ℕ → FrameError → ℕ → Forest → Wait

-- the source of what a frame holds as its error
abbrev pub error_source : Errors → FrameError → Option ℕ
error_source h e = source_of (h (error_number e))

abbrev pub entry_in : Errors → Wait → Entry Content
entry_in h (of_source i d p) = record { parent = i; value = source d p; children = natives p (sources h d) }
entry_in h (of_frame i o e p c) = record { parent = i; value = frame e p; children = natives p (sources_of h e) beside expand h c }

-- the node as it is listed
abbrev pub wait_node : Wait → Node
wait_node (of_source i d p) = listed (record { parent = i; value = source d p })
wait_node (of_frame i o e p c) = listed (record { parent = i; value = frame e p })

-- the frames among those that wait, as they stand in the order
abbrev pub frames_in : List Wait → List (Entry FrameContent)
frames_in [] = []
frames_in (of_source i d p ∷ q) = frames_in q
frames_in (of_frame i o e p c ∷ q) = record { parent = o; value = record { error = e; place = p }; children = frame_rows c } ∷ frames_in q

-- the source of the node at an index
abbrev pub from_source : ℕ → ℕ → Option ℕ → List Wait
from_source i p None = []
from_source i p (Some d) = of_source (Some i) d p ∷ []

-- the source of a node that stands in the list at an index
abbrev pub source_of_node : Errors → ℕ → Node → List Wait
source_of_node h i x = from_source i x.place (error_source h x.error)

-- the frames beneath the node at an index, which is a frame at an index of the order
abbrev pub from_forest : ℕ → ℕ → Forest → List Wait
from_forest i o empty = []
from_forest i o (tree e p c r) = of_frame (Some i) (Some o) e p c ∷ from_forest i o r

-- how many trees a forest has
abbrev pub trees : Forest → ℕ
trees empty = 0
trees (tree e p c r) = trees r + 1

-- the first item, if there is one, has another parent
abbrev pub NotUnder : ℕ → List (Item FrameContent) → Type 0
NotUnder o [] = Unit {0}
NotUnder o (x ∷ xs) = is_parent o x.parent ≡ false

-- the first frames are the trees of a forest, and those behind them have another parent
pub record NextFrames (ys : List (Item FrameContent)) (o : ℕ) (c : Forest) : Type 0 where
  pub rest : List (Item FrameContent)
  pub are : ys ≡ map item (under (Some o) (frame_rows c)) ++ rest
  pub ends : NotUnder o rest

-- some of those frames are listed
pub record Listing (ys : List (Item FrameContent)) (before now : List Node) (i o start stop : ℕ) (c : Forest) : Type 0 where
  pub done : List Wait
  pub rest : Forest
  pub is : from_forest i o c ≡ done ++ from_forest i o rest
  pub next : NextFrames ys o rest
  pub put : Put before now start stop (map wait_node done)

-- the children of a node that waits, which is at an index of the list and, if it is a frame, at an index of the order
abbrev pub born : Errors → ℕ → ℕ → Wait → List Wait
born h i o (of_source j d p) = from_source i p (source_of (h d))
born h i o (of_frame j k e p c) = from_source i p (error_source h e) ++ from_forest i o c

-- how many frames are gone past, and how many stand in the list, after a node
abbrev pub past_after : Wait → ℕ → ℕ
past_after (of_source j d p) n = n
past_after (of_frame j k e p c) n = n + 1

abbrev pub shown_after : Wait → ℕ → ℕ
shown_after (of_source j d p) n = n
shown_after (of_frame j k e p c) n = n + trees c

-- beneath a frame the next frames of the order are its own
abbrev pub NextBelow : List (Item FrameContent) → ℕ → Wait → Type 0
NextBelow ys past (of_source j d p) = Unit {0}
NextBelow ys past (of_frame j k e p c) = NextFrames ys past c

-- a node of the list waits, and there is room for its children
pub record Waits (h : Errors) (ys : List (Item FrameContent)) (list : List Node) (i : ℕ) (at : Progress) (w : Wait) : Type 0 where
  pub is : slice_index_or list i blank_node ≡ wait_node w
  pub next : NextBelow (drop at.shown ys) at.past w
  pub room : at.stop + length (born h i at.past w) ≤ length list
  pub past : at.past ≤ length ys
  pub shown : at.shown ≤ length ys

-- its children are appended
pub record Grown (h : Errors) (before after : List Node) (i : ℕ) (at to : Progress) (w : Wait) : Type 0 where
  pub put : Put before after at.stop to.stop (map wait_node (born h i at.past w))
  pub past : to.past ≡ past_after w at.past
  pub shown : to.shown ≡ shown_after w at.shown

-- the order from the frame `shown` on is the breadth-first list that goes on from the entries, whose first is the frame `past`
pub record InOrder (ys : List (Item FrameContent)) (past shown : ℕ) (ws : List (Entry FrameContent)) : Type 0 where
  pub fuel : ℕ
  pub order : drop shown ys ≡ queue fuel shown (below past ws)
  pub enough : fuel ≡ weight (below past ws)
  pub counted : shown ≡ past + length ws
  pub within : shown ≤ length ys

-- how far a flattening has come: `i` nodes of the list are gone past
pub record Spread (h : Errors) (ys : List (Item FrameContent)) (before now : List Node) (i : ℕ) (at : Progress) (w : Wait) : Type 0 where
  pub done : List Node
  pub waiting : List Wait
  pub left : ℕ
  pub long : length done ≡ i
  pub list : now ≡ done ++ (map wait_node waiting ++ drop at.stop before)
  pub ends : at.stop ≡ i + length waiting
  pub loaded : weight (map (entry_in h) waiting) ≡ left
  pub falls : left + i ≡ length before
  pub target : done ++ map listed (queue left i (map (entry_in h) waiting)) ≡ map listed (queue (length before) 0 (entry_in h w ∷ []))
  pub order : InOrder ys at.past at.shown (frames_in waiting)

-- a list of `n` places is to take the nodes of a tree, whose frames stand in the order
pub record Begun (h : Errors) (ys : List (Item FrameContent)) (n : ℕ) (t : Tree) : Type 0 where
  pub frames : ys ≡ frame_list t
  pub nodes : n ≡ count (nodes_of h t)

-- a list of `room` places is to take the nodes of a tree, which are `total` and whose frames stand in the order
pub record BegunWithin (h : Errors) (ys : List (Item FrameContent)) (room total : ℕ) (t : Tree) : Type 0 where
  pub frames : ys ≡ frame_list t
  pub nodes : total ≡ count (nodes_of h t)
  pub fits : total ≤ room
