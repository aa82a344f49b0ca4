-- The nodes of a row listed breadth-first, and the row of a list.
use Rattle.std.specs.Prelude.{ℕ, zero, suc, ◌+◌, Bool, false, cond, List, [], ◌∷◌, ◌++◌, map, length, Some, None, Option, ◌==◌}
use Rattle.nodes.specs.Rows.{Rows, none, node, count}

-- a listed node: the index of its parent, none for a root, and its value
pub record Item (A : Type 0) : Type 0 where
  pub parent : Option ℕ
  pub value : A
  deriving IsSet as Item_is_set

-- a node to be listed
pub record Entry (A : Type 0) : Type 0 where
  pub parent : Option ℕ
  pub value : A
  pub children : Rows A

abbrev pub item : {A : Type 0} → Entry A → Item A
item w = record { parent = w.parent; value = w.value }

-- the nodes of a row, which have the same parent
abbrev pub under : {A : Type 0} → Option ℕ → Rows A → List (Entry A)
under i none = []
under i (node v c r) = record { parent = i; value = v; children = c } ∷ under i r

-- the level below one whose first node has the index `n`
abbrev pub below : {A : Type 0} → ℕ → List (Entry A) → List (Entry A)
below n [] = []
below n (w ∷ ws) = under (Some n) w.children ++ below (n + 1) ws

-- a level and those below it, at most `d` of them
unfoldable pub levels : {A : Type 0} → ℕ → ℕ → List (Entry A) → List (Item A)
levels zero n ws = []
levels (suc d) n ws = map item ws ++ levels d (n + length ws) (below n ws)

-- level by level, each level in the order of the one above it; there are no more levels than nodes
unfoldable pub breadth_first : {A : Type 0} → Rows A → List (Item A)
breadth_first r = levels (count r) 0 (under None r)

-- whether `n` is the parent
abbrev pub is_parent : ℕ → Option ℕ → Bool
is_parent n None = false
is_parent n (Some i) = i == n

-- the entries whose parent is `n`, and the others
abbrev pub children_at : {A : Type 0} → ℕ → List (Entry A) → Rows A
children_at n [] = none
children_at n (w ∷ ws) = cond (is_parent n w.parent) (node w.value w.children (children_at n ws)) (children_at n ws)

abbrev pub others : {A : Type 0} → ℕ → List (Entry A) → List (Entry A)
others n [] = []
others n (w ∷ ws) = cond (is_parent n w.parent) (others n ws) (w ∷ others n ws)

-- the way back: from the last of a list, each node takes those whose parent it is as its children; the first has the
-- index `n`, and what is left are the entries whose parents stand before it
abbrev pub rebuild : {A : Type 0} → ℕ → List (Item A) → List (Entry A)
rebuild n [] = []
rebuild n (x ∷ xs) =
    record { parent = x.parent; value = x.value; children = children_at n (rebuild (n + 1) xs) } ∷ others n (rebuild (n + 1) xs)
