-- The errors of nodes that are no markers, put into a list.
use Rattle.std.specs.Prelude.{ℕ, ◌-◌, false, List, ◌++◌, map, length, drop, replicate, None}
use Rattle.vocabulary.specs.declared.frame_error.FrameError.{FrameError}
use Rattle.vocabulary.specs.declared.frame_error.FrameError.TheVariants.{Host}
use Rattle.nodes.specs.declared.node.Node.{Node}
use Rattle.nodes.specs.declared.node.Note.TheVariants.{Clear}
pub use Rattle.readings.specs.Readings.{unmarked}

-- a node that has nothing but an error
abbrev pub error_node : FrameError → Node
error_node e = record { error = e; place = 0; native = false; parent = None; note = Clear }

-- a node of zeros
abbrev pub zero_node : Node
zero_node = error_node (Host 0)

-- errors at the front of so many nodes, zeros behind them
abbrev pub shown_part : List FrameError → ℕ → List Node
shown_part es n = map error_node es ++ replicate (n - length es) zero_node

-- errors at the front of a list, zeros behind them up to `n` nodes, and the list kept behind those
abbrev pub shown : List FrameError → ℕ → List Node → List Node
shown es n list = map error_node es ++ (replicate (n - length es) zero_node ++ drop n list)

-- the errors of nodes
abbrev pub errors_in : List Node → List FrameError
errors_in xs = map (λ (x : Node). x.error) xs
