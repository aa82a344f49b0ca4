-- The steps of a breadth-first walk: the order is its own queue.
use Rattle.std.specs.Prelude.{◌≡◌, ℕ, ◌+◌, ◌<◌, ◌≤◌, List, [], ◌∷◌, ◌++◌, map, length, None, Option, slice_index_or}
use Rattle.vocabulary.specs.declared.frame_error.FrameError.{FrameError}
use Rattle.vocabulary.specs.declared.frame_error.FrameError.TheVariants.{Host}
use Rattle.trees.specs.Numbered.{Numbered, ◌beside◌, shape, size, head_of}
use Rattle.layout.specs.declared.frame.Role.TheVariants.{Linked}
use Rattle.layout.specs.declared.frame.Frame.{Frame}
use Rattle.layout.specs.Layout.{blank, Held}
use Rattle.nodes.specs.Breadth.{Entry}
use Rattle.nodes.specs.Nodes.{FrameContent, frame_rows}
use Rattle.nodes.specs.Queue.{queue}
use Rattle.traversal.specs.declared.order.Visit.{Visit}
use Rattle.traversal.specs.Order.{visits, visited}

-- some of the frames side by side are appended
pub record Trail (before now : List Visit) (at : Option ℕ) (n : ℕ) (kids : Numbered) : Type 0 where
  pub done : Numbered
  pub rest : Numbered
  pub is : kids ≡ done beside rest
  pub next : at ≡ head_of rest
  pub list : now ≡ before ++ visits n done

-- a frame whose children are still to be appended
pub record Waiting : Type 0 where
  pub parent : Option ℕ
  pub number : ℕ
  pub error : FrameError
  pub place : ℕ
  pub kids : Numbered

abbrev pub visit_of : Waiting → Visit
visit_of w = record { frame = w.number; error = w.error; place = w.place; parent = w.parent }

abbrev pub entry_of : Waiting → Entry FrameContent
entry_of w = record { parent = w.parent; value = record { error = w.error; place = w.place }; children = frame_rows (shape w.kids) }

pub record Lies (fs : List Frame) (w : Waiting) : Type 0 where
  pub below : w.number < 1024
  pub first : head_of w.kids ≡ (slice_index_or fs w.number blank).first
  pub held : Held fs Linked w.kids

abbrev pub Lie : List Frame → List Waiting → Type 0
Lie fs [] = Unit {0}
Lie fs (w ∷ q) = Lies fs w × Lie fs q

abbrev pub load : List Waiting → ℕ
load [] = 0
load (w ∷ q) = (size w.kids + 1) + load q

-- the visit of an empty order
abbrev pub unvisited : Visit
unvisited = record { frame = 0; error = Host 0; place = 0; parent = None }

pub record Start (fs : List Frame) (total : ℕ) (w : Waiting) : Type 0 where
  pub lies : Lies fs w
  pub all : size w.kids + 1 ≡ total
  pub fits : total ≤ 1024
  pub long : length fs ≡ 1024

pub record Walk (fs : List Frame) (now : List Visit) (total i : ℕ) (w : Waiting) : Type 0 where
  pub done : List Visit
  pub waiting : List Waiting
  pub left : ℕ
  pub lie : Lie fs waiting
  pub long : length done ≡ i
  pub list : now ≡ done ++ map visit_of waiting
  pub loaded : load waiting ≡ left
  pub falls : left + i ≡ total
  pub target : map visited done ++ queue left i (map entry_of waiting) ≡ queue total 0 (entry_of w ∷ [])
