use Rattle.std.specs.Prelude.{false, None}
use Rattle.vocabulary.specs.declared.frame_error.FrameError.TheVariants.{Host}
use Rattle.nodes.specs.declared.node.Node.{Node}
use Rattle.nodes.specs.declared.node.Note.TheVariants.{Clear}

-- a node that says nothing
abbrev pub blank_node : Node
blank_node = record { error = Host 0; place = 0; native = false; parent = None; note = Clear }
