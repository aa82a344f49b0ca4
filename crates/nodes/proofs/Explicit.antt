-- The nodes of a flattening that are no sources are the frames of its tree.
use Rattle.std.proofs.Common.{◌≡◌, ℕ, zero, suc, ◌+◌, Bool, true, false, cond, not, List, [], ◌∷◌, ◌++◌, map, count_by, Some, None, Option, sym, refl, ap, ◌∙◌, arith}
use Rattle.std.proofs.lemmas.List.Recursion.{is_count_by}
use Rattle.model.specs.Host.{Errors}
use Rattle.trees.specs.Trees.{Forest, empty, tree, Tree, frames}
use Rattle.nodes.specs.declared.node.Node.{Node}
use Rattle.nodes.specs.Rows.{none, node, count, ◌beside◌}
use Rattle.nodes.specs.Breadth.{Entry, under}
use Rattle.nodes.specs.Nodes.{Content, Nodes, natives, sources_of, expand, nodes_of}
use Rattle.nodes.specs.Flattening.{listed, flattening}
use Rattle.nodes.specs.Begins.{Flattens}
use Rattle.nodes.specs.Queue.{queue, weight}
use Rattle.nodes.specs.Check.{explicit_count}
use Rattle.nodes.proofs.Queue.{weight_append, weight-under, breadth_queue}

-- one for a frame
abbrev pub one : Content → ℕ
one v = cond v.native 0 1

-- how many nodes of a row are frames
abbrev pub frames_of : Nodes → ℕ
frames_of none = 0
frames_of (node v c r) = (one v + frames_of c) + frames_of r

-- how many nodes of a queue are
abbrev pub queued_frames : List (Entry Content) → ℕ
queued_frames [] = 0
queued_frames (w ∷ ws) = (one w.value + frames_of w.children) + queued_frames ws

queued_append : (q r : List (Entry Content)) → queued_frames (q ++ r) ≡ queued_frames q + queued_frames r
queued_append [] r = omega arith
queued_append (w ∷ q) r = let a = queued_append q r in omega arith

queued_under : (o : Option ℕ) (r : Nodes) → queued_frames (under o r) ≡ frames_of r
queued_under o none = refl
queued_under o (node v c r) = let a = queued_under o r in omega arith

-- one node more
count_more : (b : Bool) (n : ℕ) → cond b n (n + 1) ≡ cond b 0 1 + n
count_more true n = omega arith
count_more false n = omega arith

queue-frames : (f n : ℕ) (q : List (Entry Content)) → weight q ≡ f → explicit_count (map listed (queue f n q)) ≡ queued_frames q
unfolding queue
queue-frames zero n [] e = refl
queue-frames zero n (w ∷ q) e = absurd (omega arith)
queue-frames (suc f) n [] e = refl
queue-frames (suc f) n (w ∷ q) e =
    let beneath : List (Entry Content) = under (Some n) w.children in
    let a = weight_append q beneath in
    let u = weight-under (Some n) w.children in
    let s = queue-frames f (n + 1) (q ++ beneath) (omega arith) in
    let x = queued_append q beneath in
    let y = queued_under (Some n) w.children in
    let m = count_more w.value.native (explicit_count (map listed (queue f (n + 1) (q ++ beneath)))) in
    omega arith

frames_beside : (r s : Nodes) → frames_of (r beside s) ≡ frames_of r + frames_of s
frames_beside none s = omega arith
frames_beside (node v c r) s = let a = frames_beside r s in omega arith

frames-natives : (p : ℕ) (ds : List ℕ) → frames_of (natives p ds) ≡ 0
frames-natives p [] = refl
frames-natives p (d ∷ ds) = let a = frames-natives p ds in omega arith

frames-expand : (h : Errors) (f : Forest) → frames_of (expand h f) ≡ frames f
frames-expand h empty = refl
frames-expand h (tree e p c r) =
    let a = frames_beside (natives p (sources_of h e)) (expand h c) in
    let n = frames-natives p (sources_of h e) in
    let x = frames-expand h c in
    let y = frames-expand h r in
    omega arith

-- the frames of a flattening, which are those of its tree
pub explicit-frames : (h : Errors) (xs : List Node) (t : Tree) → Flattens h xs t → explicit_count xs ≡ frames t.children + 1
unfolding flattening
explicit-frames h xs t w =
    let listing : explicit_count (flattening h t) ≡ queued_frames (under None (nodes_of h t)) =
    ap (λ ys. explicit_count (map listed ys)) (breadth_queue (nodes_of h t)) ∙ queue-frames (count (nodes_of h t)) 0 (under None (nodes_of h t)) (weight-under None (nodes_of h t)) in
    let whole : explicit_count xs ≡ explicit_count (flattening h t) = ap explicit_count (sym w.lists) in
    let roots = queued_under None (nodes_of h t) in
    let all : frames_of (nodes_of h t) ≡ (frames t.children + 1) + 0 = frames-expand h (tree t.error t.place t.children empty) in
    omega arith

one_more : (b : Bool) (n : ℕ) → cond b n (n + 1) ≡ cond (not b) (1 + n) n
one_more true n = refl
one_more false n = omega arith

-- they are those that are not native
pub explicit_by : (xs : List Node) → explicit_count xs ≡ count_by (λ (x : Node). not x.native) xs
explicit_by = is_count_by explicit_count (λ (x : Node). not x.native) refl (λ x xs. one_more x.native (explicit_count xs))
