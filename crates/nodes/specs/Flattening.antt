-- The flattening of a report, and the tree of a list.
use Rattle.std.specs.Prelude.{List, [], ◌∷◌, map, Some, None, Option}
use Rattle.model.specs.Host.{Errors}
use Rattle.trees.specs.Trees.{Tree, only}
use Rattle.nodes.specs.declared.node.Node.{Node}
use Rattle.nodes.specs.declared.node.Note.TheVariants.{Clear}
use Rattle.nodes.specs.Breadth.{Item, Entry, breadth_first, rebuild}
use Rattle.nodes.specs.Nodes.{Content, FrameContent, frame_rows, nodes_of, explicit}

-- how a node is listed
abbrev pub listed : Item Content → Node
listed x = record { error = x.value.error; place = x.value.place; native = x.value.native; parent = x.parent; note = Clear }

-- the nodes breadth-first
unfoldable pub flattening : Errors → Tree → List Node
flattening h t = map listed (breadth_first (nodes_of h t))

-- the frames alone breadth-first
abbrev pub frame_list : Tree → List (Item FrameContent)
frame_list t = breadth_first (frame_rows (only t))

-- a listed node as it was
abbrev pub unlisted : Node → Item Content
unlisted x = record { parent = x.parent; value = record { error = x.error; place = x.place; native = x.native } }

-- the tree of the first of some entries
abbrev pub first_tree : List (Entry Content) → Option Tree
first_tree [] = None
first_tree (w ∷ ws) = Some (record { error = w.value.error; place = w.value.place; children = explicit w.children })

-- the tree of a list: each node takes those whose parent it is as its children, and only frames are kept
unfoldable pub tree_of : List Node → Option Tree
tree_of xs = first_tree (rebuild 0 (map unlisted xs))
