-- Forests whose nodes have the numbers of their frames.
use Rattle.std.specs.Prelude.{ℕ, ◌+◌, cond, [], ◌∷◌, Some, None, Option, ◌==◌}
use Rattle.vocabulary.specs.declared.frame_error.FrameError.{FrameError}
use Rattle.trees.specs.Trees.{Forest, empty, tree, Tree, Listing}

infixr 30 ◌beside◌
-- number, error, place and children of the first node, and the nodes beside it
pub data Numbered : Type 0 where
  none : Numbered
  node : ℕ → FrameError → ℕ → Numbered → Numbered → Numbered

abbrev pub ◌beside◌ : Numbered → Numbered → Numbered
none beside s = s
node i e p k r beside s = node i e p k (r beside s)

-- the forest without the numbers
abbrev pub shape : Numbered → Forest
shape none = empty
shape (node i e p k r) = tree e p (shape k) (shape r)

abbrev pub tree_of : FrameError → ℕ → Numbered → Tree
tree_of e p k = record { error = e; place = p; children = shape k }

-- the trees in order, with the numbers of their roots
abbrev pub listing : Numbered → Listing
listing none = []
listing (node i e p k r) = (i, tree_of e p k) ∷ listing r

abbrev pub size : Numbered → ℕ
size none = 0
size (node i e p k r) = (size k + 1) + size r

unfoldable pub one : ℕ → ℕ → ℕ
one n i = cond (n == i) 1 0

-- how often a number stands in a forest
abbrev pub tally : ℕ → Numbered → ℕ
tally n none = 0
tally n (node i e p k r) = one n i + (tally n k + tally n r)

abbrev pub head_of : Numbered → Option ℕ
head_of none = None
head_of (node i e p k r) = Some i

-- the last of the nodes beside one another, where the first has this number
abbrev pub last_from : ℕ → Numbered → ℕ
last_from i none = i
last_from i (node j e p k r) = last_from j r

abbrev pub last_of : Numbered → Option ℕ
last_of none = None
last_of (node i e p k r) = Some (last_from i r)
