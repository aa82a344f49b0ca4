-- The laws of readings by lists.
use Rattle.std.specs.Prelude.{◌≡◌, ℕ, Bool, List, ◌∷◌, Some}
use Rattle.std.specs.List.{filter_map}
use Rattle.vocabulary.specs.declared.policy.Pair.{Pair}
use Rattle.model.specs.Host.{Errors, Lawful}
use Rattle.host.specs.Findings.{findings_of, retries}
use Rattle.trees.specs.Trees.{Tree}
use Rattle.nodes.specs.declared.node.Node.{Node}
use Rattle.nodes.specs.Flattening.{flattening, frame_list}
use Rattle.readings.specs.ByFrames.{listed_errors}
use Rattle.readings.specs.Readings.{cause, class_of, errors_of, first_not_live, marker_in, report_pairs, verdict_of}
use Rattle.readings.specs.Seen.{◌or◌, node_seen}
use Rattle.listed_readings.specs.Judged.{frame_error, if_live, judged}
use Rattle.listed_readings.specs.NodesBack.{nodes_back}

-- what a report comes to, and the first of its errors that is not live, are those of its frames breadth-first
abbrev pub JudgedByFrames : Type 0
JudgedByFrames = (h : Errors) (span : ℕ) → Lawful h span → (accepts : Pair → Bool) (t : Tree)
    → judged h accepts (listed_errors (frame_list t)) ≡ if_live (first_not_live h (errors_of h t)) (findings_of accepts (report_pairs h t))

-- the findings of a report have its class and its verdict
abbrev pub RetriesAsVerdict : Type 0
RetriesAsVerdict = (h : Errors) (accepts : Pair → Bool) (t : Tree)
    → ((findings_of accepts (report_pairs h t)).class ≡ class_of h t) × (retries (findings_of accepts (report_pairs h t)) ≡ verdict_of h accepts t)

-- the frames of a flattening are those of its tree, in the same order
abbrev pub FrameErrorsOfNodes : Type 0
FrameErrorsOfNodes = (h : Errors) (t : Tree) → filter_map frame_error (flattening h t) ≡ listed_errors (frame_list t)

-- the probable cause by the first node of a flattening, which is the root, and what the others show to it
abbrev pub CauseByNodes : Type 0
CauseByNodes = (h : Errors) (t : Tree) (x : Node) (xs : List Node) → flattening h t ≡ x ∷ xs
    → cause h t ≡ (node_seen (marker_in h x.error) x.error (nodes_back h 1 xs (Some 0)) or x.error)
