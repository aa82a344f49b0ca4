-- The children of a node: its source, and the frames beneath it.
use Rattle.std.proofs.lemmas.Grind.{common_steps}
use Rattle.std.proofs.lemmas.Bool.Decides.{nat_tests}
use Rattle.std.proofs.Common.{◌≡◌, ℕ, ◌+◌, ◌-◌, ◌≤◌, true, false, List, ◌++◌, map, length, get_or, take, drop, Some, sym, refl, ap, ◌∙◌, subst, arith}
use Rattle.std.proofs.lemmas.List.{drop-map, length-append, length-drop, length-map, map-append, take_all}
use Rattle.model.specs.Host.{Errors}
use Rattle.trees.specs.Trees.{Forest}
use Rattle.nodes.specs.declared.node.Node.{Node}
use Rattle.nodes.specs.Breadth.{Item, item, under}
use Rattle.nodes.specs.Nodes.{FrameContent, frame_rows}
use Rattle.traversal.specs.declared.flatten.Progress.{Progress}
use Rattle.traversal.specs.declared.order.Visit.{Visit}
use Rattle.traversal.specs.Order.{visited}
use Rattle.traversal.specs.Put.{Put}
use Rattle.traversal.specs.Spread.{Wait, of_source, of_frame, born, from_forest, source_of_node, wait_node, trees, NextFrames, Waits, Grown}
use Rattle.traversal.specs.Start.{blank_node}
use Rattle.traversal.proofs.Lists.{forest-length}
use Rattle.traversal.proofs.Orders.{rows-length}
use Rattle.traversal.proofs.Puts.{put_put}

-- the part of an order that begins at a frame
pub part_is : (order : List Visit) (n : ℕ) → map visited (take (length order - n) (drop n order)) ≡ drop n (map visited order)
part_is order n = ap (map visited) (take_all (length order - n) (drop n order) (let l = length-drop n order in omega arith)) ∙ sym (drop-map visited n order)

-- a frame that waits
pub record Framed (ys : List (Item FrameContent)) (h : Errors) (i : ℕ) (x : Node) (at : Progress) (w : Wait) : Type 0 where
  pub forest : Forest
  pub next : NextFrames (drop at.shown ys) at.past forest
  pub born_is : born h i at.past w ≡ source_of_node h i x ++ from_forest i at.past forest
  pub past_is : (to : Progress) (before after : List Node) → Put before after at.stop to.stop (map wait_node (born h i at.past w)) → to.past ≡ at.past + 1 → to.shown ≡ at.shown + trees forest → Grown h before after i at to w

module _ (h : Errors) (ys : List (Item FrameContent)) (list : List Node) (i : ℕ) (at : Progress) where
  -- the node's source comes first among its children
  pub source_room : (w : Wait) → Waits h ys list i at w → at.stop + length (source_of_node h i (get_or list i blank_node)) ≤ length list
  source_room (of_source j d p) s = grind (arith, nat_tests)
  source_room (of_frame j k e p c) s = grind (arith, nat_tests)

  -- a native node has no other child
  pub grown_native : (w : Wait) → Waits h ys list i at w → (get_or list i blank_node).native ≡ true → (after : List Node) (stop : ℕ)
      → Put list after at.stop stop (map wait_node (source_of_node h i (get_or list i blank_node))) → Grown h list after i at (record { stop = stop; past = at.past; shown = at.shown }) w
  grown_native (of_source j d p) s n after stop put = record {
    put = subst (λ (x : Node). Put list after at.stop stop (map wait_node (source_of_node h i x))) s.is put;
    past = refl;
    shown = refl;
  }
  grown_native (of_frame j k e p c) s n after stop put = grind (arith, nat_tests)

  pub framed : (w : Wait) → Waits h ys list i at w → (get_or list i blank_node).native ≡ false → Framed ys h i (get_or list i blank_node) at w
  framed (of_source j d p) s n = grind (arith, nat_tests)
  framed (of_frame j k e p c) s n = record {
    forest = c;
    next = s.next;
    born_is = ap (λ (x : Node). source_of_node h i x ++ from_forest i at.past c) (sym s.is);
    past_is = λ to before after put past shown. record { put = put; past = past; shown = shown };
  }

  -- as many frames are left as it has children
  pub frames_left : (w : Wait) (s : Waits h ys list i at w) (n : (get_or list i blank_node).native ≡ false) → at.shown + trees (framed w s n).forest ≤ length ys
  frames_left w s n =
      let f = framed w s n in
      let e : length (drop at.shown ys) ≡ length (map item (under (Some at.past) (frame_rows f.forest)) ++ f.next.rest) = ap (λ (x : List (Item FrameContent)). length x) f.next.are in
      let l = length-append (map item (under (Some at.past) (frame_rows f.forest))) f.next.rest in
      let m = length-map (under (Some at.past) (frame_rows f.forest)) item in
      let t = rows-length (Some at.past) f.forest in
      let d = length-drop at.shown ys in
      let k = s.shown in
      omega arith

  -- there is room for the frames behind the source
  pub frames_room : (w : Wait) (s : Waits h ys list i at w) (n : (get_or list i blank_node).native ≡ false) (middle : List Node) (stop : ℕ)
      → Put list middle at.stop stop (map wait_node (source_of_node h i (get_or list i blank_node))) → length middle ≡ length list → stop + trees (framed w s n).forest ≤ length middle
  frames_room w s n middle stop put long =
      let f = framed w s n in
      let b : length (born h i at.past w) ≡ length (source_of_node h i (get_or list i blank_node) ++ from_forest i at.past f.forest) = ap (λ (x : List Wait). length x) f.born_is in
      let l = length-append (source_of_node h i (get_or list i blank_node)) (from_forest i at.past f.forest) in
      let t = forest-length i at.past f.forest in
      let e = put.ends in
      let m = length-map (source_of_node h i (get_or list i blank_node)) wait_node in
      let r = s.room in
      omega arith

  pub grown_frame : (w : Wait) (s : Waits h ys list i at w) (n : (get_or list i blank_node).native ≡ false) (middle after : List Node) (stop end : ℕ)
      → Put list middle at.stop stop (map wait_node (source_of_node h i (get_or list i blank_node)))
      → Put middle after stop end (map wait_node (from_forest i at.past (framed w s n).forest)) → end - stop ≡ trees (framed w s n).forest
      → Grown h list after i at (record { stop = end; past = at.past + 1; shown = at.shown + (end - stop) }) w
  grown_frame w s n middle after stop end p q e =
      let f = framed w s n in
      let r = source_room w s in
      let both : Put list after at.stop end (map wait_node (source_of_node h i (get_or list i blank_node)) ++ map wait_node (from_forest i at.past f.forest)) =
      put_put list middle after at.stop stop end _ _ p q (omega arith) in
      let all : map wait_node (source_of_node h i (get_or list i blank_node)) ++ map wait_node (from_forest i at.past f.forest) ≡ map wait_node (born h i at.past w) =
      sym (map-append wait_node (source_of_node h i (get_or list i blank_node)) (from_forest i at.past f.forest)) ∙ ap (map wait_node) (sym f.born_is) in
      f.past_is (record { stop = end; past = at.past + 1; shown = at.shown + (end - stop) }) list after
      (subst (λ (x : List Node). Put list after at.stop end x) all both) refl (ap (λ (k : ℕ). at.shown + k) e)

-- the frames beneath a frame are read from the part of the order that begins at them
module _ (h : Errors) (order : List Visit) (list : List Node) (i : ℕ) (at : Progress) (w : Wait) (s : Waits h (map visited order) list i at w) where
  pub past_few : at.past ≤ length order
  past_few = grind (arith, common_steps)

  pub shown_few : at.shown ≤ length order
  shown_few = grind (arith, common_steps)

  module _ (n : (get_or list i blank_node).native ≡ false) where
    pub beneath : Forest
    beneath = (framed h (map visited order) list i at w s n).forest

    pub next_part : NextFrames (map visited (take (length order - at.shown) (drop at.shown order))) at.past beneath
    unfolding beneath
    next_part = let f = framed h (map visited order) list i at w s n in subst (λ (x : List (Item FrameContent)). NextFrames x at.past f.forest) (sym (part_is order at.shown)) f.next

    module _ (middle : List Node) (start : ℕ) (p : Put list middle at.stop start (map wait_node (source_of_node h i (get_or list i blank_node)))) where
      pub beneath_room : length middle ≡ length list → start + trees beneath ≤ length middle
      unfolding beneath
      beneath_room long = frames_room h (map visited order) list i at w s n middle start p long

      module _ (after : List Node) (stop : ℕ) (q : Put middle after start stop (map wait_node (from_forest i at.past beneath))) where
        written : stop - start ≡ trees beneath
        written = let e = q.ends in let m = length-map (from_forest i at.past beneath) wait_node in let t = forest-length i at.past beneath in omega arith

        pub shown_fits : at.shown + (stop - start) ≤ length order
        unfolding beneath
        shown_fits = let a = written in let b = frames_left h (map visited order) list i at w s n in let l = length-map order visited in omega arith

        pub in_turn : start ≤ stop
        in_turn = let e = q.ends in omega arith

        pub grown : Grown h list after i at (record { stop = stop; past = at.past + 1; shown = at.shown + (stop - start) }) w
        unfolding beneath
        grown = grown_frame h (map visited order) list i at w s n middle after start stop p q written
