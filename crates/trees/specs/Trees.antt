-- Trees of errors. antt has no nested recursion, so the children of a tree are a forest, a type of its own.
use Rattle.std.specs.Prelude.{ℕ, ◌+◌, Bool, true, false, cond, List, [], ◌∷◌, Some, None, Option, ◌==◌}
use Rattle.vocabulary.specs.declared.frame_error.FrameError.{FrameError}

infixr 30 ◌then◌
-- the error, place and children of the first tree, and the trees after it
pub data Forest : Type 0 where
  empty : Forest
  tree : FrameError → ℕ → Forest → Forest → Forest
  deriving IsSet as Forest_is_set

pub record Tree : Type 0 where
  pub error : FrameError
  pub place : ℕ
  pub children : Forest
  deriving IsSet as Tree_is_set

abbrev pub ◌then◌ : Forest → Forest → Forest
empty then s = s
tree e p c r then s = tree e p c (r then s)

-- the forest of one tree
abbrev pub only : Tree → Forest
only t = tree t.error t.place t.children empty

abbrev pub leaf : FrameError → ℕ → Tree
leaf e p = record { error = e; place = p; children = empty }

-- how many frames a forest takes
abbrev pub frames : Forest → ℕ
frames empty = 0
frames (tree e p c r) = (frames c + 1) + frames r

-- reports in order, each with the number of its root
abbrev pub Listing : Type 0
Listing = List (ℕ × Tree)

-- the trees of reports in order
abbrev pub forest : Listing → Forest
forest [] = empty
forest (x ∷ xs) = tree x.1.error x.1.place x.1.children (forest xs)

-- whether a number is the root of a report in a listing
abbrev pub among : ℕ → Listing → Bool
among n [] = false
among n (x ∷ xs) = cond (n == x.0) true (among n xs)

-- the number of the first report
abbrev pub first_root : Listing → Option ℕ
first_root [] = None
first_root (x ∷ xs) = Some x.0

-- the reports of a row, if there is one
abbrev pub list_of : Option Listing → Listing
list_of None = []
list_of (Some x) = x
