-- The laws of a report's readings.
use Rattle.std.specs.Prelude.{◌≡◌, ℕ, Bool, false, not, ◌&&◌, ◌||◌, List, ◌∷◌, map, Some, None}
use Rattle.classes.specs.Class.{lesser}
use Rattle.vocabulary.specs.declared.frame_error.FrameError.{FrameError}
use Rattle.vocabulary.specs.declared.policy.Pair.{Pair}
use Rattle.model.specs.Host.{Errors, Lawful}
use Rattle.model.specs.Judge.{least_class, any_pair, has_rank}
use Rattle.trees.specs.Trees.{Tree, only}
use Rattle.nodes.specs.Breadth.{Item, breadth_first}
use Rattle.nodes.specs.Nodes.{Content, nodes_of, LiveTree}
use Rattle.readings.specs.Back.{from_back}
use Rattle.readings.specs.ByFrames.{listed_errors, listed_class, listed_any, frame_seen}
use Rattle.readings.specs.Frames.{FrameContent, frame_list, frames_in, over_frames}
use Rattle.readings.specs.Readings.{Cause, cause, class_of, verdict_of, report_pairs, frame_pairs, errors_of, first_not_live}
use Rattle.readings.specs.Seen.{nothing, ◌or◌, ◌with◌}

-- the fold gives the probable cause
abbrev pub CauseStands : Type 0
CauseStands = (h : Errors) (t : Tree) → Cause h t (cause h t)

-- a report has one probable cause
abbrev pub CauseOnce : Type 0
CauseOnce = (h : Errors) (t : Tree) (d e : FrameError) → Cause h t d → Cause h t e → d ≡ e

-- the class of a report, over the forest of its frames
abbrev pub ClassOverFrames : Type 0
ClassOverFrames = (h : Errors) (span : ℕ) → Lawful h span → (t : Tree) → class_of h t ≡ over_frames lesser None (λ (e : FrameError). least_class (frame_pairs h e)) (only t)

-- whether a pair of a report is accepted, over the forest of its frames
abbrev pub AnyOverFrames : Type 0
AnyOverFrames = (h : Errors) (span : ℕ) → Lawful h span → (accepts : Pair → Bool) (t : Tree)
    → any_pair accepts (report_pairs h t) ≡ over_frames ◌||◌ false (λ (e : FrameError). any_pair accepts (frame_pairs h e)) (only t)

-- the class of a report, by the list of its frames
abbrev pub ClassByFrames : Type 0
ClassByFrames = (h : Errors) (span : ℕ) → Lawful h span → (t : Tree) → class_of h t ≡ listed_class h (frame_list t)

-- whether a pair of a report is accepted, by the list of its frames
abbrev pub AnyByFrames : Type 0
AnyByFrames = (h : Errors) (span : ℕ) → Lawful h span → (accepts : Pair → Bool) (t : Tree) → any_pair accepts (report_pairs h t) ≡ listed_any h accepts (frame_list t)

-- the verdict on a report, by the list of its frames: Cancelled is the least class, so the class says whether a pair is Cancelled
abbrev pub VerdictByFrames : Type 0
VerdictByFrames = (h : Errors) (span : ℕ) → Lawful h span → (accepts : Pair → Bool) (t : Tree)
    → verdict_of h accepts t ≡ (not (has_rank 0 (listed_class h (frame_list t))) && listed_any h accepts (frame_list t))

-- the probable cause, from the last frame of the list to the first
abbrev pub CauseFromBack : Type 0
CauseFromBack = (h : Errors) (t : Tree)
    → cause h t ≡ (from_back ◌with◌ nothing (λ (x : FrameContent). frame_seen h x.error) 0 (frame_list t) None or t.error)

-- the same by the first frame of the list, which is the root, and what the others gather for it
abbrev pub CauseAtRoot : Type 0
CauseAtRoot = (h : Errors) (t : Tree) (x : Item FrameContent) (xs : List (Item FrameContent)) → frame_list t ≡ x ∷ xs
    → cause h t ≡ (frame_seen h x.value.error (from_back ◌with◌ nothing (λ (y : FrameContent). frame_seen h y.error) 1 xs (Some 0)) or x.value.error)

-- the frames among the nodes of a report, breadth-first, are its frames breadth-first
abbrev pub FramesInOrder : Type 0
FramesInOrder = (h : Errors) (t : Tree) → frames_in (map (λ (x : Item Content). x.value) (breadth_first (nodes_of h t))) ≡ map (λ (x : Item FrameContent). x.value) (frame_list t)

-- the first error that is not live is that of a frame
abbrev pub FirstNotLiveByFrames : Type 0
FirstNotLiveByFrames = (h : Errors) (span : ℕ) → Lawful h span → (t : Tree) → first_not_live h (errors_of h t) ≡ first_not_live h (listed_errors (frame_list t))

-- all errors of a report are live exactly where none is found that is not
abbrev pub LiveByFrames : Type 0
LiveByFrames = (h : Errors) (t : Tree) → (LiveTree h t → first_not_live h (listed_errors (frame_list t)) ≡ None) × (first_not_live h (listed_errors (frame_list t)) ≡ None → LiveTree h t)
