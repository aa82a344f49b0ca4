-- The frames of a report alone.
use Rattle.std.specs.Prelude.{cond, List, [], ◌∷◌}
use Rattle.vocabulary.specs.declared.frame_error.FrameError.{FrameError}
use Rattle.trees.specs.Trees.{Forest, empty, tree}
use Rattle.nodes.specs.Nodes.{Content}
pub use Rattle.nodes.specs.Flattening.{frame_list}
pub use Rattle.nodes.specs.Nodes.{FrameContent, frame_rows}

-- the frames among nodes
abbrev pub frames_in : List Content → List FrameContent
frames_in [] = []
frames_in (v ∷ vs) = cond v.native (frames_in vs) (record { error = v.error; place = v.place } ∷ frames_in vs)

-- a forest, each frame by what its error comes to
abbrev pub over_frames : {M : Type 0} → (M → M → M) → M → (FrameError → M) → Forest → M
over_frames op unit f empty = unit
over_frames op unit f (tree e p c r) = op (op (f e) (over_frames op unit f c)) (over_frames op unit f r)
