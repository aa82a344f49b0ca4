-- What a report comes to: its pairs, its class, its verdict and its probable cause.
use Rattle.std.specs.Prelude.{◌≡◌, ℕ, Bool, false, not, cond, ◌⊎◌, List, [], ◌∷◌, map, is_some, Some, None, Option}
use Rattle.std.specs.List.{filter}
use Rattle.classes.specs.declared.class.Class.{Class}
use Rattle.vocabulary.specs.Kind.{is_marker}
use Rattle.vocabulary.specs.declared.frame_error.FrameError.{FrameError}
use Rattle.vocabulary.specs.declared.frame_error.FrameError.TheVariants.{Host}
use Rattle.vocabulary.specs.declared.policy.Pair.{Pair}
use Rattle.model.specs.Host.{Error, Errors}
use Rattle.model.specs.Judge.{pair_of, pairs_of, least_class, may_retry}
use Rattle.model.specs.Sources.{chain}
use Rattle.trees.specs.Trees.{Tree}
use Rattle.nodes.specs.declared.node.Node.{Node}
use Rattle.nodes.specs.Nodes.{Content, nodes_of}
use Rattle.nodes.specs.Flattening.{flattening}
use Rattle.readings.specs.Seen.{◌or◌, seen}
use Rattle.readings.specs.Positions.{Deepest, NoneComparable}

-- the pair of what a frame holds as its error
abbrev pub pair_in : Errors → FrameError → Pair
pair_in h (Host e) = pair_of h e

-- the errors of a report's nodes, breadth-first
abbrev pub errors_of : Errors → Tree → List FrameError
errors_of h t = map (λ (x : Node). x.error) (flattening h t)

-- the pairs of a report, one for each node
abbrev pub report_pairs : Errors → Tree → List Pair
report_pairs h t = map (pair_in h) (errors_of h t)

-- the class of a report: the least among its nodes, or none
unfoldable pub class_of : Errors → Tree → Option Class
class_of h t = least_class (report_pairs h t)

-- whether a policy lets a report be tried again
unfoldable pub verdict_of : Errors → (Pair → Bool) → Tree → Bool
verdict_of h accepts t = may_retry accepts (report_pairs h t)

-- whether what is told of an error is that it is a marker
abbrev pub tells_marker : Option Error → Bool
tells_marker None = false
tells_marker (Some m) = is_marker m.kind

-- whether what a frame holds as its error is a marker
abbrev pub marker_in : Errors → FrameError → Bool
marker_in h (Host e) = tells_marker (h e)

-- the errors that are no markers
abbrev pub unmarked : Errors → List FrameError → List FrameError
unmarked h es = filter (λ (e : FrameError). not (marker_in h e)) es

-- whether a node is a marker
abbrev pub marker : Errors → Content → Bool
marker h x = marker_in h x.error

-- the error of a node
abbrev pub error_at : Content → FrameError
error_at x = x.error

-- the probable cause of a report: the error of the deepest node that is no marker and has every other such node above
-- or beneath it; where there is none, the error of the root
abbrev pub Cause : Errors → Tree → FrameError → Type 0
Cause h t e = Deepest (marker h) error_at (nodes_of h t) e ⊎ (NoneComparable (marker h) (nodes_of h t) × (e ≡ t.error))

-- the same by a fold
unfoldable pub cause : Errors → Tree → FrameError
cause h t = seen (marker h) error_at (nodes_of h t) or t.error

-- the pairs of what a frame holds as its error and of all sources beneath it
abbrev pub frame_pairs : Errors → FrameError → List Pair
frame_pairs h (Host e) = pairs_of h (chain h e)

-- whether what a frame holds as its error is live
abbrev pub live_in : Errors → FrameError → Bool
live_in h (Host e) = is_some (h e)

-- the first error that is not live
abbrev pub first_not_live : Errors → List FrameError → Option ℕ
first_not_live h [] = None
first_not_live h (Host e ∷ es) = cond (is_some (h e)) (first_not_live h es) (Some e)
