-- The frames of an order, gone through one after the other.
use Rattle.std.proofs.Common.{◌≡◌, ℕ, zero, suc, ◌+◌, ◌-◌, ◌<◌, ◌≤◌, false, List, [], ◌∷◌, ◌++◌, map, length, drop, Some, Option, sym, refl, ap, ◌∙◌, ap₂, append_assoc, arith}
use Rattle.std.proofs.lemmas.List.{drop_at, drop-drop, length-append, length-drop, length-map}
use Rattle.std.proofs.lemmas.Bool.{ne_eqb}
use Rattle.trees.specs.Trees.{Forest, empty, tree}
use Rattle.nodes.specs.Rows.{Rows, none, node, count}
use Rattle.nodes.specs.Breadth.{Item, Entry, item, under, below, is_parent}
use Rattle.nodes.specs.Nodes.{FrameContent, frame_rows}
use Rattle.nodes.specs.Queue.{queue, weight}
use Rattle.nodes.proofs.Queue.{queue_front, weight_append, weight-below, weight-length}
use Rattle.traversal.specs.Spread.{trees, NotUnder, NextFrames, InOrder}

module _ {A : Type 0} where
  pub under-length : (o : Option ℕ) (r : Rows A) → length (under o r) ≤ count r
  under-length o none = omega arith
  under-length o (node v c r) = let h = under-length o r in omega arith

  below_append : (n : ℕ) (a b : List (Entry A)) → below n (a ++ b) ≡ below n a ++ below (n + length a) b
  below_append n [] b = ap (λ (m : ℕ). below m b) (omega arith)
  below_append n (w ∷ a) b =
      ap (λ (z : List (Entry A)). under (Some n) w.children ++ z) (below_append (n + 1) a b ∙ ap (λ (m : ℕ). below (n + 1) a ++ below m b) (omega arith))
      ∙ sym (append_assoc (under (Some n) w.children) (below (n + 1) a) (below (n + length (w ∷ a)) b))

  -- the first entry, if there is one, has another parent
  abbrev pub Apart : ℕ → List (Entry A) → Type 0
  Apart o [] = Unit {0}
  Apart o (w ∷ ws) = is_parent o w.parent ≡ false

  apart_append : (o : ℕ) (a b : List (Entry A)) → Apart o a → Apart o b → Apart o (a ++ b)
  apart_append o [] b p q = q
  apart_append o (w ∷ a) b p q = p

  apart_under : (o n : ℕ) (r : Rows A) → o < n → Apart o (under (Some n) r)
  apart_under o n none lt = tt
  apart_under o n (node v c r) lt = ne_eqb n o (λ e. omega arith)

  apart_below : (o n : ℕ) (ws : List (Entry A)) → o < n → Apart o (below n ws)
  apart_below o n [] lt = tt
  apart_below o n (w ∷ ws) lt = apart_append o (under (Some n) w.children) (below (n + 1) ws) (apart_under o n w.children lt) (apart_below o (n + 1) ws (omega arith))

apart_queue : (o f n : ℕ) (ws : List (Entry FrameContent)) → Apart o ws → NotUnder o (queue f n ws)
unfolding queue
apart_queue o zero n ws p = tt
apart_queue o (suc f) n [] p = tt
apart_queue o (suc f) n (w ∷ ws) p = p

pub rows-length : (o : Option ℕ) (c : Forest) → length (under o (frame_rows c)) ≡ trees c
rows-length o empty = refl
rows-length o (tree e p c r) = let h = rows-length o r in omega arith

module _ (ys : List (Item FrameContent)) (past shown : ℕ) (w : Entry FrameContent) (ws : List (Entry FrameContent)) (c : Forest) (is : w.children ≡ frame_rows c) (o : InOrder ys past shown (w ∷ ws)) where
  kids : List (Entry FrameContent)
  kids = under (Some past) (frame_rows c)

  rest : List (Entry FrameContent)
  rest = below (past + 1) ws ++ below shown kids

  left : ℕ
  left = o.fuel - length kids

  enough : o.fuel ≡ length kids + left
  unfolding kids left
  enough =
      let e = o.enough in
      let a = weight_append (under (Some past) w.children) (below (past + 1) ws) in
      let b : weight (under (Some past) w.children) ≡ weight (under (Some past) (frame_rows c)) = ap (λ (r : Rows FrameContent). weight (under (Some past) r)) is in
      let d = weight-length (under (Some past) (frame_rows c)) in
      omega arith

  splits : drop shown ys ≡ map item kids ++ queue left (shown + length kids) rest
  unfolding kids rest
  splits =
      o.order
      ∙ ap₂ (λ (f : ℕ) (r : Rows FrameContent). queue f shown (under (Some past) r ++ below (past + 1) ws)) enough is
      ∙ queue_front left shown (under (Some past) (frame_rows c)) (below (past + 1) ws)

  later : past < shown
  later = let a = o.counted in omega arith

  -- the next frames are the children of the first entry
  pub next_frames : NextFrames (drop shown ys) past c
  unfolding kids rest
  next_frames = record {
    rest = queue left (shown + length (under (Some past) (frame_rows c))) (below (past + 1) ws ++ below shown (under (Some past) (frame_rows c)));
    are = splits;
    ends = apart_queue past left _ (below (past + 1) ws ++ below shown (under (Some past) (frame_rows c)))
        (apart_append past (below (past + 1) ws) (below shown (under (Some past) (frame_rows c))) (apart_below past (past + 1) ws (omega arith)) (apart_below past shown (under (Some past) (frame_rows c)) later));
  }

  -- the first entry is gone past
  pub in_order : InOrder ys (past + 1) (shown + trees c) (ws ++ under (Some past) (frame_rows c))
  unfolding kids rest left
  in_order =
      let l = rows-length (Some past) c in
      let k : ℕ = length (under (Some past) (frame_rows c)) in
      let a = o.counted in
      let next : below (past + 1) (ws ++ under (Some past) (frame_rows c)) ≡ below (past + 1) ws ++ below shown (under (Some past) (frame_rows c)) =
      below_append (past + 1) ws (under (Some past) (frame_rows c)) ∙ ap (λ (m : ℕ). below (past + 1) ws ++ below m (under (Some past) (frame_rows c))) (omega arith) in
      let e = enough in
      let f = o.enough in
      let g = weight_append (under (Some past) w.children) (below (past + 1) ws) in
      let h = weight_append (below (past + 1) ws) (below shown (under (Some past) (frame_rows c))) in
      let i = weight-below shown (under (Some past) (frame_rows c)) in
      let b : weight (under (Some past) w.children) ≡ weight (under (Some past) (frame_rows c)) = ap (λ (r : Rows FrameContent). weight (under (Some past) r)) is in
      let n : weight (below (past + 1) (ws ++ under (Some past) (frame_rows c))) ≡ weight (below (past + 1) ws ++ below shown (under (Some past) (frame_rows c))) = ap weight next in
      let dl : length (drop shown ys) ≡ length ys - shown = length-drop shown ys in
      let ml : length (drop shown ys) ≡ length (map item (under (Some past) (frame_rows c)) ++ queue left (shown + k) (below (past + 1) ws ++ below shown (under (Some past) (frame_rows c)))) = ap (λ (z : List (Item FrameContent)). length z) splits in
      let al = length-append (map item (under (Some past) (frame_rows c))) (queue left (shown + k) (below (past + 1) ws ++ below shown (under (Some past) (frame_rows c)))) in
      let im : length (map item (under (Some past) (frame_rows c))) ≡ k = length-map (under (Some past) (frame_rows c)) item in
      let wi = o.within in
      let ll = length-append ws (under (Some past) (frame_rows c)) in
      record {
        fuel = left;
        order = ap (λ (m : ℕ). drop m ys) (let z : shown + trees c ≡ shown + k = omega arith in z)
            ∙ sym (drop-drop k shown ys) ∙ ap (drop k) splits
            ∙ drop_at (map item (under (Some past) (frame_rows c))) (queue left (shown + k) (below (past + 1) ws ++ below shown (under (Some past) (frame_rows c)))) k im
            ∙ ap₂ (λ (m : ℕ) (z : List (Entry FrameContent)). queue left m z) (let z : shown + k ≡ shown + trees c = omega arith in z) (sym next);
        enough = omega arith;
        counted = omega arith;
        within = omega arith;
      }
