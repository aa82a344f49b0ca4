-- Nodes without their notes.
use Rattle.nodes.specs.declared.node.Node.{Node}
use Rattle.nodes.specs.declared.node.Note.TheVariants.{Clear}

-- a node without its note
abbrev pub cleared : Node → Node
cleared x = record { error = x.error; place = x.place; native = x.native; parent = x.parent; note = Clear }
