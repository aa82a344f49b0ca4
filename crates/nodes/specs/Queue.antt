-- The same listing by a queue: the first entry is listed, and its children wait behind the others. The code lists this way.
use Rattle.std.specs.Prelude.{ℕ, zero, suc, ◌+◌, List, [], ◌∷◌, ◌++◌, Some}
use Rattle.nodes.specs.Rows.{count}
use Rattle.nodes.specs.Breadth.{Item, Entry, item, under}

-- at most `f` entries
unfoldable pub queue : {A : Type 0} → ℕ → ℕ → List (Entry A) → List (Item A)
queue zero n ws = []
queue (suc f) n [] = []
queue (suc f) n (w ∷ ws) = item w ∷ queue f (n + 1) (ws ++ under (Some n) w.children)

-- how many nodes entries have
abbrev pub weight : {A : Type 0} → List (Entry A) → ℕ
weight [] = 0
weight (w ∷ ws) = (count w.children + 1) + weight ws
