-- The trees of entries, and the nodes they are listed as.
use Rattle.std.proofs.Common.{◌≡◌, ℕ, zero, suc, ◌+◌, ◌<◌, ◌≤◌, Bool, true, false, cond, not, List, [], ◌∷◌, ◌++◌, map, reverse, length, get_or, drop, Some, Option, sym, refl, ap, ◌∙◌, arith}
use Rattle.std.proofs.lemmas.List.{map-append, reverse-append}
use Rattle.std.proofs.lemmas.List.Sums.{sum_by-take-drop}
use Rattle.std.proofs.lemmas.Bool.{eq-eqb}
use Rattle.model.specs.Host.{Errors}
use Rattle.trees.specs.Trees.{Forest, empty, tree, Tree, frames, ◌then◌, Listing, forest}
use Rattle.nodes.specs.declared.node.Node.{Node}
use Rattle.nodes.specs.Rows.{none, node, ◌beside◌}
use Rattle.nodes.specs.Breadth.{Entry, is_parent, item, under}
use Rattle.nodes.specs.Check.{blank, explicit_count}
use Rattle.nodes.specs.Flattening.{listed}
use Rattle.nodes.specs.Nodes.{Content, Nodes, expand, explicit, natives, sources_of}
use Rattle.nodes.proofs.Explicit.{explicit_by}
use Rattle.nodes.proofs.Rebuild.{AllBefore, not_parent}
use Rattle.rebuilding.proofs.Turns.{next, waiting}

-- an entry as it is listed
abbrev pub as_node : Entry Content → Node
as_node w = listed (item w)

pub listed_items : (ws : List (Entry Content)) → map listed (map item ws) ≡ map as_node ws
listed_items [] = refl
listed_items (w ∷ ws) = ap (λ (xs : List Node). as_node w ∷ xs) (listed_items ws)

-- the tree of an entry that is a frame
abbrev pub tree_in : Entry Content → Tree
tree_in w = record { error = w.value.error; place = w.value.place; children = explicit w.children }

-- the trees of those entries that are frames
abbrev pub trees : List (Entry Content) → List Tree
trees [] = []
trees (w ∷ ws) = cond w.value.native (trees ws) (tree_in w ∷ trees ws)

pub trees_append : (v w : List (Entry Content)) → trees (v ++ w) ≡ trees v ++ trees w
trees_append [] w = refl
trees_append (x ∷ v) w = go x.value.native (trees_append v w)
  where
    go : (b : Bool) → trees (v ++ w) ≡ trees v ++ trees w → cond b (trees (v ++ w)) (tree_in x ∷ trees (v ++ w)) ≡ cond b (trees v) (tree_in x ∷ trees v) ++ trees w
    go true h = h
    go false h = ap (λ (ts : List Tree). tree_in x ∷ ts) h

pub count-trees : (ws : List (Entry Content)) → explicit_count (map as_node ws) ≡ length (trees ws)
count-trees [] = refl
count-trees (w ∷ ws) = go w.value.native (count-trees ws)
  where
    go : (b : Bool) → explicit_count (map as_node ws) ≡ length (trees ws) → cond b (explicit_count (map as_node ws)) (explicit_count (map as_node ws) + 1) ≡ length (cond b (trees ws) (tree_in w ∷ trees ws))
    go true h = h
    go false h = omega arith

pub forest_append : (a b : Listing) → forest (a ++ b) ≡ forest a then forest b
forest_append [] b = refl
forest_append (x ∷ a) b = ap (tree x.1.error x.1.place x.1.children) (forest_append a b)

-- trees side by side
abbrev pub forest_of : List Tree → Forest
forest_of [] = empty
forest_of (t ∷ ts) = tree t.error t.place t.children (forest_of ts)

forest-none : (ts : List Tree) → forest_of ts ≡ empty → ts ≡ []
forest-none [] e = refl
forest-none (t ∷ ts) e = absurd (cc)

pub forest-under : (o : Option ℕ) (r : Nodes) → forest_of (trees (under o r)) ≡ explicit r
forest-under o none = refl
forest-under o (node v c r) = go v.native (forest-under o r)
  where
    go : (b : Bool) → forest_of (trees (under o r)) ≡ explicit r
        → forest_of (cond b (trees (under o r)) (record { error = v.error; place = v.place; children = explicit c } ∷ trees (under o r))) ≡ elim b [ true ↦ explicit r | false ↦ tree v.error v.place (explicit c) (explicit r) ]
    go true h = h
    go false h = ap (tree v.error v.place (explicit c)) h

-- the trees of a row
abbrev pub trees_of : Listing → List Tree
trees_of row = map (λ (x : ℕ × Tree). x.1) row

pub forest-trees : (row : Listing) → forest row ≡ forest_of (trees_of row)
forest-trees [] = refl
forest-trees (x ∷ row) = ap (tree x.1.error x.1.place x.1.children) (forest-trees row)

pub reverse-one : {A : Type 0} (x : A) (xs : List A) → reverse (x ∷ xs) ≡ reverse xs ++ x ∷ []
reverse-one x xs = reverse-append (x ∷ []) xs

pub trees-reverse : (row : Listing) → trees_of (reverse row) ≡ reverse (trees_of row)
trees-reverse [] = refl
trees-reverse (x ∷ row) =
    ap trees_of (reverse-one x row) ∙ map-append (λ (y : ℕ × Tree). y.1) (reverse row) (x ∷ []) ∙ ap (λ (ts : List Tree). ts ++ x.1 ∷ []) (trees-reverse row)
    ∙ sym (reverse-one x.1 (trees_of row))

pub then_empty : (f : Forest) → f then empty ≡ f
then_empty empty = refl
then_empty (tree e p c r) = ap (tree e p c) (then_empty r)

pub frames_then : (f s : Forest) → frames (f then s) ≡ frames f + frames s
frames_then empty s = omega arith
frames_then (tree e p c r) s = let a = frames_then r s in omega arith

pub frames-reverse : (row : Listing) → frames (forest (reverse row)) ≡ frames (forest row)
frames-reverse [] = refl
frames-reverse (x ∷ row) =
    let a : frames (forest (reverse (x ∷ row))) ≡ frames (forest (reverse row) then forest (x ∷ [])) = ap (λ (r : Listing). frames (forest r)) (reverse-one x row) ∙ ap frames (forest_append (reverse row) (x ∷ [])) in
    let b = frames_then (forest (reverse row)) (forest (x ∷ [])) in
    let c = frames-reverse row in
    omega arith

-- the frames of some of the nodes
pub fewer : (n : ℕ) (xs : List Node) → explicit_count (drop n xs) ≤ explicit_count xs
fewer n xs = omega (arith, explicit_by xs, explicit_by (drop n xs), sum_by-take-drop (λ (x : Node). cond (not x.native) 1 0) xs n)

-- beneath a source there are no frames
abbrev pub Bare : Nodes → Type 0
Bare none = Unit {0}
Bare (node v c r) = (v.native ≡ true → explicit c ≡ empty) × Bare c × Bare r

abbrev pub AllBare : List (Entry Content) → Type 0
AllBare [] = Unit {0}
AllBare (w ∷ ws) = (w.value.native ≡ true → explicit w.children ≡ empty) × Bare w.children × AllBare ws

no_frames : (p : ℕ) (ds : List ℕ) → explicit (natives p ds) ≡ empty
no_frames p [] = refl
no_frames p (d ∷ ds) = refl

bare-natives : (p : ℕ) (ds : List ℕ) → Bare (natives p ds)
bare-natives p [] = tt
bare-natives p (d ∷ ds) = (λ _. no_frames p ds, bare-natives p ds, tt)

bare_beside : (r s : Nodes) → Bare r → Bare s → Bare (r beside s)
bare_beside none s a b = b
bare_beside (node v c r) s a b = (a.0, a.1, bare_beside r s a.2 b)

pub bare-expand : (h : Errors) (f : Forest) → Bare (expand h f)
bare-expand h empty = tt
bare-expand h (tree e p c r) =
    (λ q. absurd (cc), bare_beside (natives p (sources_of h e)) (expand h c) (bare-natives p (sources_of h e)) (bare-expand h c), bare-expand h r)

pub bare-under : (o : Option ℕ) (r : Nodes) → Bare r → AllBare (under o r)
bare-under o none b = tt
bare-under o (node v c r) b = (b.0, b.1, bare-under o r b.2)

bare_append : (v w : List (Entry Content)) → AllBare v → AllBare w → AllBare (v ++ w)
bare_append [] w a b = b
bare_append (x ∷ v) w a b = (a.0, a.1, bare_append v w a.2 b)

bare_next : (n : ℕ) (ws : List (Entry Content)) → AllBare ws → AllBare (next n ws)
bare_next n [] b = tt
bare_next n (w ∷ ws) b = bare_append ws (under (Some n) w.children) b.2 (bare-under (Some n) w.children b.1)

pub bare_waiting : (ws : List (Entry Content)) → AllBare ws → (n : ℕ) → AllBare (waiting ws n)
bare_waiting ws b zero = b
bare_waiting ws b (suc n) = bare_next n (waiting ws n) (bare_waiting ws b n)

-- so the children of a source are no frames
pub source_childless : (o : Option ℕ) (r : Nodes) → explicit r ≡ empty → trees (under o r) ≡ []
source_childless o r e = forest-none (trees (under o r)) (forest-under o r ∙ e)

-- the parents of nodes that wait, and of the children of the node `n`
pub early_parents : (n : ℕ) (ws : List (Entry Content)) → AllBefore n ws → (k : ℕ) → k < length ws → is_parent n (get_or (map as_node ws) k blank).parent ≡ false
early_parents n [] b k lt = absurd (omega arith)
early_parents n (w ∷ ws) b zero lt = not_parent n w.parent b.0
early_parents n (w ∷ ws) b (suc k) lt = early_parents n ws b.1 k (omega arith)

pub child_parents : (n : ℕ) (r : Nodes) (k : ℕ) → k < length (under (Some n) r) → is_parent n (get_or (map as_node (under (Some n) r)) k blank).parent ≡ true
child_parents n none k lt = absurd (omega arith)
child_parents n (node v c r) zero lt = eq-eqb n n refl
child_parents n (node v c r) (suc k) lt = child_parents n r k (omega arith)
