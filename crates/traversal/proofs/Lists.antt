-- The nodes that are appended beneath one.
use Rattle.std.proofs.lemmas.Grind.{common_steps}
use Rattle.std.proofs.Common.{◌≡◌, ℕ, ◌+◌, ◌<◌, ◌≤◌, true, false, List, [], ◌∷◌, ◌++◌, map, length, get_or, drop, set, Some, Option, sym, refl, ap, ◌∙◌, subst, ap₂, ⊎_elim, append_assoc, arith}
use Rattle.std.proofs.lemmas.List.{append-nil, length-append, length-map, map-append, drop_more, get_or-map}
use Rattle.std.proofs.lemmas.Bool.{cases_lt, eq-eqb, true≢false}
use Rattle.trees.specs.Trees.{Forest, empty, tree}
use Rattle.nodes.specs.declared.node.Node.{Node}
use Rattle.nodes.specs.Breadth.{Item, item, under, is_parent}
use Rattle.nodes.specs.Flattening.{listed}
use Rattle.nodes.specs.Nodes.{FrameContent, frame, frame_rows}
use Rattle.traversal.specs.declared.order.Visit.{Visit}
use Rattle.traversal.specs.Order.{visited}
use Rattle.traversal.specs.Put.{Put}
use Rattle.traversal.specs.Spread.{Wait, of_source, of_frame, wait_node, from_source, from_forest, trees, NotUnder, NextFrames, Listing}
use Rattle.traversal.specs.Start.{blank_node}
use Rattle.traversal.specs.Walk.{unvisited}
use Rattle.traversal.proofs.Puts.{put_none, put_more}

-- the source of a node
pub source_some : (before : List Node) (start i p : ℕ) (o r : Option ℕ) (d : ℕ) → r ≡ o → r ≡ Some d → start + length (from_source i p o) ≤ length before
    → Put before (set before start (wait_node (of_source (Some i) d p))) start (start + 1) (map wait_node (from_source i p o))
source_some before start i p o r d q e room =
    let s : o ≡ Some d = sym q ∙ e in
    let l : length (from_source i p o) ≡ 1 = ap (λ (x : Option ℕ). length (from_source i p x)) s in
    subst (λ (x : Option ℕ). Put before (set before start (wait_node (of_source (Some i) d p))) start (start + 1) (map wait_node (from_source i p x))) (sym s)
    (put_more blank_node before before start start [] (wait_node (of_source (Some i) d p)) (put_none before start) (omega arith) (omega arith))

pub forest-length : (i o : ℕ) (c : Forest) → length (from_forest i o c) ≡ trees c
forest-length i o empty = refl
forest-length i o (tree e p c r) = let h = forest-length i o r in omega arith

-- the next of the order is what stands there
pub record Reads (order : List Visit) (at : ℕ) (x : Item FrameContent) : Type 0 where
  pub below : at < length order
  pub is : visited (get_or order at unvisited) ≡ x

module _ (order : List Visit) where
  abbrev pub ordered : List (Item FrameContent)
  ordered = map visited order

  pub drop_order : (at : ℕ) → at < length order → drop at ordered ≡ visited (get_or order at unvisited) ∷ drop (at + 1) ordered
  drop_order at lt =
      let l = length-map order visited in
      drop_more ordered at (visited unvisited) (omega arith)
      ∙ ap (λ (x : Item FrameContent). x ∷ drop (at + 1) ordered) (get_or-map visited order at unvisited (visited unvisited) lt)

  pub reads : (at : ℕ) (x : Item FrameContent) (xs : List (Item FrameContent)) → drop at ordered ≡ x ∷ xs → Reads order at x
  reads at x xs e = ⊎_elim yes no (cases_lt at (length order))
    where
      yes : at < length order → Reads order at x
      yes lt = record { below = lt; is = let q : visited (get_or order at unvisited) ∷ drop (at + 1) ordered ≡ x ∷ xs = sym (drop_order at lt) ∙ e in cc }

      no : length order ≤ at → Reads order at x
      no ge = grind (arith, common_steps)

  module _ (before : List Node) (i o start : ℕ) (c : Forest) (room : start + trees c ≤ length before) where
    pub listing_none : NextFrames ordered o c → Listing (drop 0 ordered) before before i o start start c
    listing_none n = record { done = []; rest = c; is = refl; next = n; put = put_none before start }

    module _ (now : List Node) (at stop : ℕ) (t : Listing (drop at ordered) before now i o start stop c) where
      sums : length t.done + trees t.rest ≡ trees c
      sums =
          let a = forest-length i o c in
          let b = forest-length i o t.rest in
          let d : length (from_forest i o c) ≡ length (t.done ++ from_forest i o t.rest) = ap (λ (x : List Wait). length x) t.is in
          let e = length-append t.done (from_forest i o t.rest) in
          omega arith

      stops : stop ≡ start + length t.done
      stops = grind (arith, common_steps)

      pub within : stop ≤ length before
      within =
          let a = sums in
          let b = stops in
          omega arith

      -- a frame with this parent comes next
      pub record More (v : Visit) : Type 0 where
        pub below : stop < length before
        pub listing : Listing (drop (at + 1) ordered) before (set now stop (listed (record { parent = Some i; value = frame v.error v.place }))) i o start (stop + 1) c

      pub listing_more : at < length order → is_parent o (get_or order at unvisited).parent ≡ true → More (get_or order at unvisited)
      listing_more lt tested = go t.rest refl
        where
          child : is_parent o (get_or order at unvisited).parent ≡ true
          child = tested

          v : Visit
          v = get_or order at unvisited

          go : (rest : Forest) → t.rest ≡ rest → More (get_or order at unvisited)
          go empty e = absurd (bare t.next.rest refl)
            where
              bare : (xs : List (Item FrameContent)) → t.next.rest ≡ xs → ⊥
              bare [] q =
                  let z : drop at ordered ≡ [] = t.next.are ∙ ap₂ (λ (f : Forest) (ys : List (Item FrameContent)). map item (under (Some o) (frame_rows f)) ++ ys) e q in
                  let y : visited (get_or order at unvisited) ∷ drop (at + 1) ordered ≡ [] = sym (drop_order at lt) ∙ z in
                  cc
              bare (x ∷ xs) q =
                  let z : drop at ordered ≡ x ∷ xs = t.next.are ∙ ap₂ (λ (f : Forest) (ys : List (Item FrameContent)). map item (under (Some o) (frame_rows f)) ++ ys) e q in
                  let r : visited (get_or order at unvisited) ≡ x = (reads at x xs z).is in
                  let u : is_parent o x.parent ≡ false = subst (NotUnder o) q t.next.ends in
                  true≢false (sym child ∙ ap (λ (y : Item FrameContent). is_parent o y.parent) r ∙ u)
          go (tree e p k r) q =
              let z : drop at ordered ≡ record { parent = Some o; value = record { error = e; place = p } } ∷ (map item (under (Some o) (frame_rows r)) ++ t.next.rest) =
              t.next.are ∙ ap (λ (f : Forest). map item (under (Some o) (frame_rows f)) ++ t.next.rest) q in
              let is : visited (get_or order at unvisited) ≡ record { parent = Some o; value = record { error = e; place = p } } = (reads at _ _ z).is in
              let w : Wait = of_frame (Some i) (Some o) e p k in
              let x : wait_node w ≡ listed (record { parent = Some i; value = frame (get_or order at unvisited).error (get_or order at unvisited).place }) =
              sym (ap (λ (y : Item FrameContent). listed (record { parent = Some i; value = frame y.value.error y.value.place })) is) in
              let s = sums in
              let s2 : trees t.rest ≡ trees r + 1 = ap trees q in
              let s3 = stops in
              let l = length-append t.done (w ∷ []) in
              record {
                below = omega arith;
                listing = record {
                  done = t.done ++ (w ∷ []);
                  rest = r;
                  is = t.is ∙ ap (λ (f : Forest). t.done ++ from_forest i o f) q ∙ sym (append_assoc t.done (w ∷ []) (from_forest i o r));
                  next = record {
                    rest = t.next.rest;
                    are = sym (tail_is (drop_order at lt) z);
                    ends = t.next.ends;
                  };
                  put = subst (λ (y : List Node). Put before (set now stop (listed (record { parent = Some i; value = frame (get_or order at unvisited).error (get_or order at unvisited).place }))) start (stop + 1) y) (sym (map-append wait_node t.done (w ∷ [])))
                      (subst (λ (y : Node). Put before (set now stop y) start (stop + 1) (map wait_node t.done ++ (wait_node w ∷ []))) x
                      (put_more blank_node before now start stop (map wait_node t.done) (wait_node w) t.put (omega arith) (omega arith)));
                };
              }
            where
              tail_is : {x y : Item FrameContent} {xs ys zs : List (Item FrameContent)} → zs ≡ x ∷ xs → zs ≡ y ∷ ys → ys ≡ xs
              tail_is a b = let q = sym b ∙ a in cc

      -- none with this parent comes next
      ended : (at < length order → is_parent o (get_or order at unvisited).parent ≡ false) → t.rest ≡ empty
      ended other = go t.rest refl
        where
          go : (rest : Forest) → t.rest ≡ rest → t.rest ≡ empty
          go empty e = e
          go (tree e p k r) q =
              let z : drop at ordered ≡ record { parent = Some o; value = record { error = e; place = p } } ∷ (map item (under (Some o) (frame_rows r)) ++ t.next.rest) =
              t.next.are ∙ ap (λ (f : Forest). map item (under (Some o) (frame_rows f)) ++ t.next.rest) q in
              let d = reads at _ _ z in
              absurd (true≢false (sym (eq-eqb o o refl) ∙ sym (ap (λ (y : Item FrameContent). is_parent o y.parent) d.is) ∙ other d.below))

      all_listed : (at < length order → is_parent o (get_or order at unvisited).parent ≡ false) → Put before now start stop (map wait_node (from_forest i o c))
      all_listed other =
          let all : t.done ≡ from_forest i o c = sym (t.is ∙ ap (λ (f : Forest). t.done ++ from_forest i o f) (ended other) ∙ append-nil t.done) in
          subst (λ (y : List Wait). Put before now start stop (map wait_node y)) all t.put

      pub listing_stop : is_parent o (get_or order at unvisited).parent ≡ false → Put before now start stop (map wait_node (from_forest i o c))
      listing_stop tested = all_listed (λ lt. tested)

      pub listing_all : length order ≤ at → Put before now start stop (map wait_node (from_forest i o c))
      listing_all le = all_listed (λ lt. absurd (omega arith))
