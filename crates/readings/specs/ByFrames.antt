-- What a list of frames comes to, where each frame counts with the sources beneath its error.
use Rattle.std.specs.Prelude.{ℕ, Bool, false, cond, ◌||◌, List, [], ◌∷◌, map, None, Option}
use Rattle.classes.specs.Class.{lesser}
use Rattle.classes.specs.declared.class.Class.{Class}
use Rattle.vocabulary.specs.declared.frame_error.FrameError.{FrameError}
use Rattle.vocabulary.specs.declared.frame_error.FrameError.TheVariants.{Host}
use Rattle.vocabulary.specs.declared.policy.Pair.{Pair}
use Rattle.model.specs.Host.{Errors}
use Rattle.model.specs.Judge.{least_class, any_pair}
use Rattle.nodes.specs.Breadth.{Item}
use Rattle.nodes.specs.Nodes.{sources_of}
use Rattle.readings.specs.Folds.{folded}
use Rattle.readings.specs.Frames.{FrameContent}
use Rattle.readings.specs.Readings.{frame_pairs, marker_in}
use Rattle.readings.specs.Seen.{Seen, nothing, single, ◌with◌, node_seen}

-- the errors of listed frames
abbrev pub listed_errors : List (Item FrameContent) → List FrameError
listed_errors xs = map (λ (x : Item FrameContent). x.value.error) xs

-- the least class among listed frames and the sources beneath them, or none
abbrev pub listed_class : Errors → List (Item FrameContent) → Option Class
listed_class h xs = folded lesser None (λ (x : Item FrameContent). least_class (frame_pairs h x.value.error)) xs

-- whether one of the pairs of listed frames and of the sources beneath them is accepted
abbrev pub listed_any : Errors → (Pair → Bool) → List (Item FrameContent) → Bool
listed_any h accepts xs = folded ◌||◌ false (λ (x : Item FrameContent). any_pair accepts (frame_pairs h x.value.error)) xs

-- what is seen of sources, each the child of the one before
abbrev pub chain_seen : Errors → List ℕ → Seen FrameError
chain_seen h [] = nothing
chain_seen h (d ∷ ds) = node_seen (marker_in h (Host d)) (Host d) (chain_seen h ds)

-- what is seen of a frame, by what is seen of the frames that are its children: its sources stand beside those
abbrev pub frame_seen : Errors → FrameError → Seen FrameError → Seen FrameError
frame_seen h e s = node_seen (marker_in h e) e (chain_seen h (sources_of h e) with s)

-- the last of some errors that is no marker, else what was seen before them
abbrev pub last_seen : Errors → Seen FrameError → List ℕ → Seen FrameError
last_seen h s [] = s
last_seen h s (d ∷ ds) = last_seen h (cond (marker_in h (Host d)) s (single (Host d))) ds
