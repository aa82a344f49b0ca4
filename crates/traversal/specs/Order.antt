-- The frames of a report in breadth-first order.
use Rattle.std.specs.Prelude.{◌≡◌, ℕ, ◌+◌, ◌≤◌, List, [], ◌∷◌, map, length, Some, None, Option, slice_index_or}
use Rattle.trees.specs.Counting.{in_report}
use Rattle.trees.specs.Trees.{Tree}
use Rattle.trees.specs.Numbered.{Numbered, none, node, head_of}
use Rattle.layout.specs.declared.frame.Role.TheVariants.{Linked}
use Rattle.layout.specs.declared.frame.Frame.{Frame}
use Rattle.layout.specs.Layout.{blank, Held}
use Rattle.nodes.specs.Breadth.{Item}
use Rattle.nodes.specs.Flattening.{frame_list}
use Rattle.nodes.specs.Nodes.{FrameContent}
use Rattle.traversal.specs.declared.order.Visit.{Visit}

-- a visit of a frame
abbrev pub visit_at : List Frame → ℕ → Option ℕ → Visit
visit_at fs i o = record { frame = i; error = (slice_index_or fs i blank).error; place = (slice_index_or fs i blank).place; parent = o }

-- what a visit says of its frame
abbrev pub visited : Visit → Item FrameContent
visited v = record { parent = v.parent; value = record { error = v.error; place = v.place } }

-- the order has the frames of the report breadth-first
abbrev pub Ordered : Option Tree → List Visit → Type 0
Ordered None order = ⊥
Ordered (Some t) order = (length order ≡ in_report (Some t)) × (map visited order ≡ frame_list t)

-- how many trees stand side by side
abbrev pub width : Numbered → ℕ
width none = 0
width (node i e p k r) = width r + 1

-- the visits of trees side by side
abbrev pub visits : ℕ → Numbered → List Visit
visits n none = []
visits n (node i e p k r) = record { frame = i; error = e; place = p; parent = Some n } ∷ visits n r

-- frames are linked from the first, and there is room for them among `most`
pub record Room (fs : List Frame) (first : Option ℕ) (start most : ℕ) (kids : Numbered) : Type 0 where
  pub held : Held fs Linked kids
  pub begins : head_of kids ≡ first
  pub room : start + width kids ≤ most
  pub long : length fs ≡ 1024
