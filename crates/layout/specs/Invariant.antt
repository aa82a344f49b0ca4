-- What holds of the links of every store.
use Rattle.std.specs.Prelude.{◌≡◌, ℕ, ◌<◌, ◌⊎◌, List, Some, Option, slice_index_or}
use Rattle.layout.specs.declared.frame.Role.{Role}
use Rattle.layout.specs.declared.frame.Role.TheVariants.{Linked, Report, Row}
use Rattle.layout.specs.declared.frame.Frame.{Frame}
use Rattle.layout.specs.Layout.{blank}

-- reached from a first frame along the links to the next
pub data Along (fs : List Frame) : Option ℕ → ℕ → Type 0 where
  here : {n : ℕ} → Along fs (Some n) n
  next : {i n : ℕ} → Along fs (slice_index_or fs i blank).next n → Along fs (Some i) n

abbrev pub Child : List Frame → ℕ → ℕ → Type 0
Child fs i n = Along fs (slice_index_or fs i blank).first n

-- `n` is `i` or beneath it
pub data From (fs : List Frame) : ℕ → ℕ → Type 0 where
  self : {n : ℕ} → From fs n n
  down : {i c n : ℕ} → Child fs i c → From fs c n → From fs i n

abbrev pub Ancestor : List Frame → ℕ → ℕ → Type 0
Ancestor fs i n = (c : ℕ) × Child fs i c × From fs c n

abbrev pub Begins : Role → Type 0
Begins Linked = ⊥
Begins Report = Unit {0}
Begins (Row l n) = Unit {0}

-- the root of a report: it begins a report or a row, or comes after one that begins a row
abbrev pub Root : List Frame → ℕ → Type 0
Root fs r = (h : ℕ) × Begins (slice_index_or fs h blank).role × Along fs (Some h) r

-- the frame `n` belongs to the report with the root `r`
abbrev pub Belongs : List Frame → ℕ → ℕ → Type 0
Belongs fs r n = Root fs r × From fs r n

-- the frame `n` is free: in the list of free frames or beneath one of it
abbrev pub Free : List Frame → Option ℕ → ℕ → Type 0
Free fs head n = (r : ℕ) × Along fs head r × From fs r n

-- each frame is free or belongs to exactly one report, and none is its own ancestor
pub record WellFormed (fs : List Frame) (head : Option ℕ) : Type 0 where
  pub some : (n : ℕ) → n < 1024 → ∥ Free fs head n ⊎ ((r : ℕ) × Belongs fs r n) ∥₁
  pub either : (n r : ℕ) → Free fs head n → Belongs fs r n → ⊥
  pub one : (n r s : ℕ) → Belongs fs r n → Belongs fs s n → r ≡ s
  pub acyclic : (n : ℕ) → Ancestor fs n n → ⊥
