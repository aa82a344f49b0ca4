-- The steps of a flattening.
use Rattle.std.proofs.lemmas.Grind.{common_steps}
use Rattle.std.proofs.lemmas.Bool.Decides.{nat_tests}
use Rattle.std.proofs.Common.{◌≡◌, ℕ, zero, suc, ◌+◌, ◌<◌, ◌≤◌, List, [], ◌∷◌, ◌++◌, map, length, get_or, take, drop, set, Some, None, sym, refl, ap, ◌∙◌, subst, ap₂, append_assoc, add-zero, add-one, arith}
use Rattle.std.proofs.lemmas.List.{append-nil, length-append, length-map, length-set, length-take-le, map-append, drop_at, drop-drop, drop_more, get_or_at, get_or-set_same, take_at}
use Rattle.model.specs.Host.{Errors, Lawful}
use Rattle.trees.specs.Trees.{Tree, only}
use Rattle.nodes.specs.declared.node.Node.{Node}
use Rattle.nodes.specs.Rows.{count}
use Rattle.nodes.specs.Breadth.{Item, Entry, item, under}
use Rattle.nodes.specs.Flattening.{flattening, frame_list, listed}
use Rattle.nodes.specs.Nodes.{Content, FrameContent, frame, frame_rows, nodes_of}
use Rattle.nodes.specs.Queue.{queue, weight}
use Rattle.nodes.proofs.Queue.{weight-length, breadth_queue, weight_append, weight-under}
use Rattle.traversal.specs.declared.flatten.Progress.{Progress}
use Rattle.traversal.specs.declared.order.Visit.{Visit}
use Rattle.traversal.specs.Order.{visited}
use Rattle.traversal.specs.Spread.{Wait, of_source, of_frame, born, entry_in, error_source, frames_in, from_forest, from_source, trees, wait_node, NextBelow, Waits, Grown, InOrder, Spread, Begun, BegunWithin}
use Rattle.traversal.specs.Start.{blank_node}
use Rattle.traversal.specs.Walk.{unvisited}
use Rattle.traversal.proofs.Lists.{reads as reads-order}
use Rattle.traversal.proofs.Entries.{born-under, frames_append, frames-forest, frames-source}
use Rattle.traversal.proofs.Orders.{in_order, next_frames, under-length}

-- the root of a tree waits
abbrev pub root_of : Tree → Wait
root_of t = of_frame None None t.error t.place t.children

-- a list of `ws` for entries
wait_item : (h : Errors) (w : Wait) → listed (item (entry_in h w)) ≡ wait_node w
wait_item h (of_source i d p) = refl
wait_item h (of_frame i o e p c) = refl

module _ (h : Errors) (span : ℕ) (l : Lawful h span) (ys : List (Item FrameContent)) (before : List Node) (root : Wait) where
  module _ (now : List Node) (i : ℕ) (at : Progress) (s : Spread h ys before now i at root) (lt : i < length before) where
    -- the first that waits
    pub record Head : Type 0 where
      pub head : Wait
      pub rest : List Wait
      pub is : s.waiting ≡ head ∷ rest

    headed : Head
    headed = go s.waiting refl
      where
        go : (q : List Wait) → s.waiting ≡ q → Head
        go [] e = grind (arith, nat_tests)
        go (w ∷ q) e = record { head = w; rest = q; is = e }

    pub w : Wait
    w = headed.head

    q : List Wait
    q = headed.rest

    is : s.waiting ≡ w ∷ q
    unfolding w q
    is = headed.is

    now_is : now ≡ s.done ++ (wait_node w ∷ (map wait_node q ++ drop at.stop before))
    now_is = s.list ∙ ap (λ (x : List Wait). s.done ++ (map wait_node x ++ drop at.stop before)) is

    reads : get_or now i blank_node ≡ wait_node w
    reads = ap (λ (x : List Node). get_or x i blank_node) now_is ∙ get_or_at s.done (wait_node w) _ blank_node i s.long

    sums : (count (entry_in h w).children + 1) + weight (map (entry_in h) q) ≡ s.left
    sums = sym (ap (λ (x : List Wait). weight (map (entry_in h) x)) is) ∙ s.loaded

    ends : at.stop ≡ i + (length q + 1)
    ends = let a = s.ends in let b : length s.waiting ≡ length (w ∷ q) = ap (λ (x : List Wait). length x) is in omega arith

    born_long : length (born h i at.past w) ≤ count (entry_in h w).children
    born_long =
        let a : length (map (entry_in h) (born h i at.past w)) ≡ length (under (Some i) (entry_in h w).children) = ap (λ (x : List (Entry Content)). length x) (born-under h span l i at.past w) in
        let b = length-map (born h i at.past w) (entry_in h) in
        let c = under-length (Some i) (entry_in h w).children in
        omega arith

    order : InOrder ys at.past at.shown (frames_in (w ∷ q))
    order = subst (λ (x : List Wait). InOrder ys at.past at.shown (frames_in x)) is s.order

    next_below : (v : Wait) → InOrder ys at.past at.shown (frames_in (v ∷ q)) → NextBelow (drop at.shown ys) at.past v
    next_below (of_source j d p) o = tt
    next_below (of_frame j k e p c) o = next_frames ys at.past at.shown _ (frames_in q) c refl o

    pub waits : length now ≡ length before → Waits h ys now i at w
    waits same =
        let a = sums in
        let b = born_long in
        let c = ends in
        let d = s.falls in
        let e = weight-length (map (entry_in h) q) in
        let f = length-map q (entry_in h) in
        let g = order.counted in
        let k = order.within in
        record { is = reads; next = next_below w order; room = omega arith; past = omega arith; shown = k }

    order_after : (v : Wait) (to : Progress) → InOrder ys at.past at.shown (frames_in (v ∷ q)) → (after : List Node) → Grown h now after i at to v
        → InOrder ys to.past to.shown (frames_in (q ++ born h i at.past v))
    order_after (of_source j d p) to o after g =
        subst (λ (x : List (Entry FrameContent)). InOrder ys to.past to.shown x) (sym (frames_append q (born h i at.past (of_source j d p)) ∙ ap (λ (z : List (Entry FrameContent)). frames_in q ++ z) (frames-source i p _) ∙ append-nil (frames_in q)))
        (subst (λ (x : ℕ). InOrder ys to.past x (frames_in q)) (sym g.shown) (subst (λ (x : ℕ). InOrder ys x at.shown (frames_in q)) (sym g.past) o))
    order_after (of_frame j k e p c) to o after g =
        let new = in_order ys at.past at.shown _ (frames_in q) c refl o in
        let same : frames_in (q ++ born h i at.past (of_frame j k e p c)) ≡ frames_in q ++ under (Some at.past) (frame_rows c) =
        frames_append q (born h i at.past (of_frame j k e p c))
        ∙ ap (λ (z : List (Entry FrameContent)). frames_in q ++ z) (frames_append (from_source i p (error_source h e)) (from_forest i at.past c) ∙ ap₂ (λ (a b : List (Entry FrameContent)). a ++ b) (frames-source i p (error_source h e)) (frames-forest i at.past c)) in
        subst (λ (x : List (Entry FrameContent)). InOrder ys to.past to.shown x) (sym same)
        (subst (λ (x : ℕ). InOrder ys to.past x (frames_in q ++ under (Some at.past) (frame_rows c))) (sym g.shown)
        (subst (λ (x : ℕ). InOrder ys x (at.shown + trees c) (frames_in q ++ under (Some at.past) (frame_rows c))) (sym g.past) new))

    front_long : length (s.done ++ (wait_node w ∷ map wait_node q)) ≡ at.stop
    front_long = length-append s.done (wait_node w ∷ map wait_node q) ∙ (let a = s.long in let b = length-map q wait_node in let c = ends in omega arith)

    front_is : now ≡ (s.done ++ (wait_node w ∷ map wait_node q)) ++ drop at.stop before
    front_is = now_is ∙ sym (append_assoc s.done (wait_node w ∷ map wait_node q) (drop at.stop before))

    pub spread_more : (after : List Node) (to : Progress) → Grown h now after i at to w → Spread h ys before after (i + 1) to root
    unfolding queue
    spread_more after to g = go s.left refl
      where
        take_is : take at.stop now ≡ s.done ++ (wait_node w ∷ map wait_node q)
        take_is = ap (take at.stop) front_is ∙ take_at _ (drop at.stop before) at.stop front_long

        drop_is : drop to.stop now ≡ drop to.stop before
        drop_is =
            let n : ℕ = length (map wait_node (born h i at.past w)) in
            ap (λ (x : ℕ). drop x now) g.put.ends ∙ sym (drop-drop n at.stop now) ∙ ap (λ (x : List Node). drop n (drop at.stop x)) front_is
            ∙ ap (drop n) (drop_at (s.done ++ (wait_node w ∷ map wait_node q)) (drop at.stop before) at.stop front_long) ∙ drop-drop n at.stop before ∙ ap (λ (x : ℕ). drop x before) (sym g.put.ends)

        go : (f : ℕ) → s.left ≡ f → Spread h ys before after (i + 1) to root
        go zero e = absurd (let a = s.falls in omega arith)
        go (suc f) e =
            let b = born h i at.past w in
            let entries : map (entry_in h) (q ++ b) ≡ map (entry_in h) q ++ under (Some i) (entry_in h w).children =
            map-append (entry_in h) q b ∙ ap (λ (z : List (Entry Content)). map (entry_in h) q ++ z) (born-under h span l i at.past w) in
            record {
              done = s.done ++ (wait_node w ∷ []);
              waiting = q ++ b;
              left = f;
              long = length-append s.done _ ∙ (let a = s.long in omega arith);
              list = g.put.list ∙ ap₂ (λ (x y : List Node). x ++ (map wait_node b ++ y)) take_is drop_is ∙ simp (map-append, append_assoc);
              ends = let a = g.put.ends in let c = length-append q b in let d = length-map b wait_node in let k = ends in omega arith;
              loaded = ap weight entries ∙ (let a = weight_append (map (entry_in h) q) (under (Some i) (entry_in h w).children) in let c = weight-under (Some i) (entry_in h w).children in let d = sums in omega arith);
              falls = let a = s.falls in omega arith;
              target = append_assoc s.done (wait_node w ∷ []) _
                  ∙ ap₂ (λ (x : Node) (z : List (Entry Content)). s.done ++ (x ∷ map listed (queue f (i + 1) z))) (sym (wait_item h w)) entries
                  ∙ sym (ap₂ (λ (f' : ℕ) (q' : List Wait). s.done ++ map listed (queue f' i (map (entry_in h) q'))) e is)
                  ∙ s.target;
              order = order_after w to order after g;
            }

  pub spread_all : (now : List Node) (i : ℕ) (at : Progress) → Spread h ys before now i at root → length before ≤ i → now ≡ map listed (queue (length before) 0 (entry_in h root ∷ []))
  unfolding queue
  spread_all now i at s le = go s.waiting s.left refl refl
    where
      go : (q : List Wait) (f : ℕ) → s.waiting ≡ q → s.left ≡ f → now ≡ map listed (queue (length before) 0 (entry_in h root ∷ []))
      go q (suc f) e z = absurd (let a = s.falls in omega arith)
      go (v ∷ q) zero e z = grind (arith, nat_tests)
      go [] zero e z = grind (arith, common_steps)

-- where a list has room for the nodes, its part of so many places has as many places as there are nodes
pub part : (h : Errors) (ys : List (Item FrameContent)) (list : List Node) (total : ℕ) (t : Tree) → BegunWithin h ys (length list) total t → Begun h ys (length (take total list)) t
part h ys list total t b = record {
  frames = b.frames;
  nodes = length-take-le total list b.fits ∙ b.nodes;
}

-- the first frame of an order, and those after it
first_frame : (t : Tree) → frame_list t ≡ record { parent = None; value = record { error = t.error; place = t.place } } ∷ queue (count (frame_rows t.children)) 1 (under (Some 0) (frame_rows t.children))
unfolding queue
first_frame t = breadth_queue (frame_rows (only t)) ∙ rw (add-zero, add-one) refl

module _ (h : Errors) (span : ℕ) (l : Lawful h span) (order : List Visit) (list : List Node) (t : Tree)
    (b : Begun h (map visited order) (length list) t) where
  pub room : 0 < length list
  room = let a = b.nodes in omega arith

  begins : map visited order ≡ record { parent = None; value = record { error = t.error; place = t.place } } ∷ queue (count (frame_rows t.children)) 1 (under (Some 0) (frame_rows t.children))
  begins = b.frames ∙ first_frame t

  read : visited (get_or order 0 unvisited) ≡ record { parent = None; value = record { error = t.error; place = t.place } }
  read = (reads-order order 0 _ _ begins).is

  pub first_there : 0 < length order
  first_there = (reads-order order 0 _ _ begins).below

  pub spread_none : (x : Node) → x ≡ listed (record { parent = None; value = frame (get_or order 0 unvisited).error (get_or order 0 unvisited).place })
      → Spread h (map visited order) (set list 0 x) (set list 0 x) 0 (record { stop = 1; past = 0; shown = 1 }) (root_of t)
  spread_none x is =
      let same : x ≡ wait_node (root_of t) = is ∙ ap (λ (y : Item FrameContent). listed (record { parent = None; value = frame y.value.error y.value.place })) read in
      let r = room in
      let n = b.nodes in
      let same_length = length-set list 0 x in
      record {
        done = [];
        waiting = root_of t ∷ [];
        left = length (set list 0 x);
        long = refl;
        list = drop_more (set list 0 x) 0 blank_node (simp length-set (omega arith)) ∙ ap (λ (y : Node). y ∷ drop 1 (set list 0 x)) (get_or-set_same list 0 x blank_node (omega arith) ∙ same);
        ends = refl;
        loaded = omega arith;
        falls = omega arith;
        target = refl;
        order = record {
          fuel = count (frame_rows t.children);
          order = ap (drop 1) begins ∙ ap (queue (count (frame_rows t.children)) 1) (sym (append-nil (under (Some 0) (frame_rows t.children))));
          enough = sym (ap weight (append-nil (under (Some 0) (frame_rows t.children))) ∙ weight-under (Some 0) (frame_rows t.children));
          counted = refl;
          within = let k : length (map visited order) ≡ length (queue (count (frame_rows t.children)) 1 (under (Some 0) (frame_rows t.children))) + 1 = ap (λ (z : List (Item FrameContent)). length z) begins ∙ omega arith in omega arith;
        };
      }

  pub flat : (now : List Node) (x : Node) → now ≡ map listed (queue (length (set list 0 x)) 0 (entry_in h (root_of t) ∷ [])) → now ≡ flattening h t
  unfolding flattening
  flat now x e = e ∙ ap (map listed) (ap (λ (m : ℕ). queue m 0 (entry_in h (root_of t) ∷ [])) (length-set list 0 x ∙ b.nodes) ∙ sym (breadth_queue (nodes_of h t)))
