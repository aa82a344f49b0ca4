-- What is seen of listed nodes, from the last to the first.
use Rattle.std.specs.Prelude.{ℕ, List, map, Option}
use Rattle.vocabulary.specs.declared.frame_error.FrameError.{FrameError}
use Rattle.model.specs.Host.{Errors}
use Rattle.nodes.specs.declared.node.Node.{Node}
use Rattle.nodes.specs.Flattening.{unlisted}
use Rattle.nodes.specs.Nodes.{Content}
use Rattle.readings.specs.Back.{from_back}
use Rattle.readings.specs.Readings.{marker_in}
use Rattle.readings.specs.Seen.{Seen, nothing, ◌with◌, node_seen}

-- what is seen of a node
abbrev pub content_seen : Errors → Content → Seen FrameError → Seen FrameError
content_seen h v s = node_seen (marker_in h v.error) v.error s

-- what nodes show to each parent; the first has the index `n`
abbrev pub nodes_back : Errors → ℕ → List Node → Option ℕ → Seen FrameError
nodes_back h n xs = from_back ◌with◌ nothing (content_seen h) n (map unlisted xs)
