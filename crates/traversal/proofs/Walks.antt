-- The steps of a breadth-first walk.
use Rattle.std.proofs.lemmas.Grind.{common_steps}
use Rattle.std.proofs.lemmas.Bool.Decides.{nat_tests}
use Rattle.std.proofs.Common.{◌≡◌, ℕ, zero, suc, ◌+◌, ◌<◌, ◌≤◌, true, List, [], ◌∷◌, ◌++◌, map, length, get_or, is_some, Some, None, Option, sym, refl, ap, ◌∙◌, subst, ap₂, append_assoc, arith}
use mathlib.Core.List.{is_set}
use mathlib.Core.Logic.{∥∥₁_elim, ∥∥₁_map}
use native.Mathlib.Bridge.{le_prop}
use native.Mathlib.Nat.{ℕ_set}
use Rattle.std.proofs.lemmas.Bool.{false≢true}
use Rattle.std.proofs.lemmas.List.{length-append, length-map, map-append, get_or_at}
use Rattle.trees.specs.Trees.{Forest, Tree, frames, only}
use Rattle.trees.specs.Counting.{in_report}
use Rattle.trees.specs.Numbered.{Numbered, none, node, shape, size}
use Rattle.trees.proofs.Numbered.{counted}
use Rattle.trees.proofs.Sets.{error_set, option_set}
use Rattle.layout.specs.declared.frame.Role.TheVariants.{Linked}
use Rattle.layout.specs.declared.frame.Frame.{Frame}
use Rattle.layout.specs.Layout.{blank, Held}
use Rattle.layout.specs.Placed.{Placed}
use Rattle.frames.specs.declared.store.Frames.{Frames}
use Rattle.frames.specs.Of.{frames_of, reports_of}
use Rattle.frames.proofs.Placed.{placed_in}
use Rattle.nodes.specs.Breadth.{Item, Entry, under}
use Rattle.nodes.specs.Nodes.{FrameContent, frame_rows}
use Rattle.nodes.specs.Queue.{queue}
use Rattle.nodes.proofs.Queue.{breadth_queue}
use Rattle.readings.proofs.Sums.{count-frames}
use Rattle.traversal.specs.declared.order.Visit.{Visit}
use Rattle.traversal.specs.Order.{visit_at, visited, width, visits, Ordered, Room}
use Rattle.traversal.specs.Walk.{Waiting, visit_of, entry_of, Lies, Lie, load, unvisited, Start, Walk}

-- the root waits
abbrev pub root : ℕ → Tree → Numbered → Waiting
root x t kids = record { parent = None; number = x; error = t.error; place = t.place; kids = kids }

-- the children of a frame wait
abbrev pub items : ℕ → Numbered → List Waiting
items n none = []
items n (node i e p k r) = record { parent = Some n; number = i; error = e; place = p; kids = k } ∷ items n r

items_visits : (n : ℕ) (r : Numbered) → map visit_of (items n r) ≡ visits n r
items_visits n none = refl
items_visits n (node i e p k r) = ap (λ (x : List Visit). record { frame = i; error = e; place = p; parent = Some n } ∷ x) (items_visits n r)

items_entries : (n : ℕ) (r : Numbered) → map entry_of (items n r) ≡ under (Some n) (frame_rows (shape r))
items_entries n none = refl
items_entries n (node i e p k r) = ap (λ (x : List (Entry FrameContent)). record { parent = Some n; value = record { error = e; place = p }; children = frame_rows (shape k) } ∷ x) (items_entries n r)

items_load : (n : ℕ) (r : Numbered) → load (items n r) ≡ size r
items_load n none = refl
items_load n (node i e p k r) = let h = items_load n r in omega arith

items_length : (n : ℕ) (r : Numbered) → length (items n r) ≡ width r
items_length n none = refl
items_length n (node i e p k r) = let h = items_length n r in omega arith

width-size : (r : Numbered) → width r ≤ size r
width-size none = omega arith
width-size (node i e p k r) = let h = width-size r in omega arith

load-length : (q : List Waiting) → length q ≤ load q
load-length [] = omega arith
load-length (w ∷ q) = let h = load-length q in omega arith

load_append : (q r : List Waiting) → load (q ++ r) ≡ load q + load r
load_append [] r = omega arith
load_append (w ∷ q) r = let h = load_append q r in omega arith

lie_append : (fs : List Frame) (q r : List Waiting) → Lie fs q → Lie fs r → Lie fs (q ++ r)
lie_append fs [] r h g = g
lie_append fs (w ∷ q) r h g = (h.0, lie_append fs q r h.1 g)

lie_items : (fs : List Frame) (n : ℕ) (r : Numbered) → length fs ≡ 1024 → Held fs Linked r → Lie fs (items n r)
lie_items fs n none l h = tt
lie_items fs n (node i e p k r) l h =
    (record { below = let x = h.0 in omega arith; first = sym (ap (λ (f : Frame). f.first) h.1); held = h.2 }, lie_items fs n r l h.3)

module _ (fs : List Frame) (total : ℕ) (w : Waiting) (s : Start fs total w) where
  pub walk_none : (order : List Visit) → order ≡ visit_of w ∷ [] → Walk fs order total 0 w
  walk_none order e = record {
    done = [];
    waiting = w ∷ [];
    left = total;
    lie = (s.lies, tt);
    long = refl;
    list = e;
    loaded = let a = s.all in omega arith;
    falls = omega arith;
    target = refl;
  }

  module _ (now : List Visit) (i : ℕ) (t : Walk fs now total i w) where
    -- the first that waits, while some is left
    pub record Head : Type 0 where
      pub head : Waiting
      pub waiting : List Waiting
      pub is : t.waiting ≡ head ∷ waiting

    headed : i < total → Head
    headed lt = go t.waiting refl
      where
        go : (q : List Waiting) → t.waiting ≡ q → Head
        go [] e = grind (arith, nat_tests)
        go (v ∷ q) e = record { head = v; waiting = q; is = e }

    module _ (lt : i < total) where
      h : Head
      h = headed lt

      pub v : Waiting
      v = h.head

      q : List Waiting
      q = h.waiting

      lies : Lies fs v × Lie fs q
      unfolding v q
      lies = subst (λ (x : List Waiting). Lie fs x) h.is t.lie

      listed : now ≡ t.done ++ (visit_of v ∷ map visit_of q)
      unfolding v q
      listed = grind (arith, nat_tests)

      sums : (size v.kids + 1) + load q ≡ t.left
      unfolding v q
      sums = sym (ap load h.is) ∙ t.loaded

      ends : length now ≡ i + (length q + 1)
      ends = ap length listed ∙ length-append t.done (visit_of v ∷ map visit_of q) ∙ (let a = t.long in let b = length-map q visit_of in omega arith)

      pub here : i < length now
      here = let e = ends in omega arith

      -- what stands at the turn's place
      reads : get_or now i unvisited ≡ visit_of v
      reads = ap (λ (x : List Visit). get_or x i unvisited) listed ∙ get_or_at t.done (visit_of v) _ unvisited i t.long

      pub frame_below : (get_or now i unvisited).frame < 1024
      frame_below = subst (λ (x : Visit). x.frame < 1024) (sym reads) lies.0.below

      pub kids_room : (most : ℕ) → total ≤ most → (first : Option ℕ) → first ≡ (get_or fs (get_or now i unvisited).frame blank).first → Room fs first (length now) most v.kids
      kids_room most fit first e = record {
        held = lies.0.held;
        begins = lies.0.first ∙ sym (ap (λ (x : Visit). (get_or fs x.frame blank).first) reads) ∙ sym e;
        room = let a = sums in let b = load-length q in let c = width-size v.kids in let d = ends in let e = t.falls in let f = s.fits in omega arith;
        long = s.long;
      }

      pub walk_more : (after : List Visit) → after ≡ now ++ visits i v.kids → Walk fs after total (i + 1) w
      unfolding queue v q
      walk_more after is = go t.left refl
        where
          go : (f : ℕ) → t.left ≡ f → Walk fs after total (i + 1) w
          go zero e = absurd (let a = t.falls in omega arith)
          go (suc f) e = record {
            done = t.done ++ (visit_of v ∷ []);
            waiting = q ++ items i v.kids;
            left = f;
            lie = lie_append fs q (items i v.kids) lies.1 (lie_items fs i v.kids s.long lies.0.held);
            long = length-append t.done _ ∙ (let a = t.long in omega arith);
            list = is ∙ ap (λ (x : List Visit). x ++ visits i v.kids) listed ∙ simp (map-append, items_visits, append_assoc);
            loaded = let a = load_append q (items i v.kids) in let b = items_load i v.kids in let c = sums in omega arith;
            falls = let a = t.falls in omega arith;
            target = ap (λ (z : List (Item FrameContent)). z ++ queue f (i + 1) (map entry_of (q ++ items i v.kids))) (map-append visited t.done (visit_of v ∷ []))
                ∙ append_assoc (map visited t.done) (visited (visit_of v) ∷ []) _
                ∙ ap (λ (z : List (Entry FrameContent)). map visited t.done ++ (visited (visit_of v) ∷ queue f (i + 1) z)) (map-append entry_of q (items i v.kids) ∙ ap (λ (z : List (Entry FrameContent)). map entry_of q ++ z) (items_entries i v.kids))
                ∙ sym (ap₂ (λ (f' : ℕ) (q' : List Waiting). map visited t.done ++ queue f' i (map entry_of q')) e h.is)
                ∙ t.target;
          }

    pub walk_all : total ≤ i → (length now ≡ total) × (map visited now ≡ queue total 0 (entry_of w ∷ []))
    unfolding queue
    walk_all le = go t.waiting t.left refl refl
      where
        go : (q : List Waiting) (f : ℕ) → t.waiting ≡ q → t.left ≡ f → (length now ≡ total) × (map visited now ≡ queue total 0 (entry_of w ∷ []))
        go q (suc f) e z = absurd (let a = t.falls in omega arith)
        go (v ∷ q) zero e z = grind (arith, nat_tests)
        go [] zero e z = grind (arith, common_steps)

-- a report of a store, with the place where its tree lies
pub record At (s : Frames) (x : ℕ) : Type 0 where
  pub tree : Tree
  pub kids : Numbered
  pub is : reports_of s x ≡ Some tree
  pub placed : Placed (frames_of s) x tree kids

pub found : (s : Frames) (x : ℕ) → is_some (reports_of s x) ≡ true → ∥ At s x ∥₁
found s x live = go (reports_of s x) refl live
  where
    go : (o : Option Tree) → reports_of s x ≡ o → is_some o ≡ true → ∥ At s x ∥₁
    go None e l = absurd (false≢true l)
    go (Some t) e l = ∥∥₁_map (placed_in s x t e) (λ k. record { tree = t; kids = k.0; is = e; placed = k.1 })

-- the number of frames of a report
pub sized : (s : Frames) (x n : ℕ) (a : At s x) → n ≡ in_report (reports_of s x) → n ≡ size a.kids + 1
sized s x n a e =
    let b : in_report (reports_of s x) ≡ in_report (Some a.tree) = ap in_report a.is in
    let c : frames a.tree.children ≡ size a.kids = ap frames (sym a.placed.children) ∙ counted a.kids in
    omega arith

-- the walk begins at the root of a report
module _ (fs : List Frame) (x : ℕ) (t : Tree) (kids : Numbered) (l : Placed fs x t kids) where
  pub start : Start fs (size kids + 1) (root x t kids)
  start = record {
    lies = record { below = l.below; first = sym l.first; held = l.held };
    all = refl;
    fits = l.fits;
    long = l.long;
  }

  pub first_visit : visit_at fs x None ≡ visit_of (root x t kids)
  first_visit = λ i. record { frame = x; error = l.error i; place = l.place i; parent = None }

  pub ordered : (order : List Visit) → (length order ≡ size kids + 1) × (map visited order ≡ queue (size kids + 1) 0 (entry_of (root x t kids) ∷ [])) → Ordered (Some t) order
  ordered order o =
      let sh : frames t.children ≡ size kids = ap frames (sym l.children) ∙ counted kids in
      let rc = count-frames (only t) in (
        o.0 ∙ omega arith,
        o.1
            ∙ ap (λ (c : Forest). queue (size kids + 1) 0 (under None (frame_rows (only (record { error = t.error; place = t.place; children = c }))))) l.children
            ∙ ap (λ (m : ℕ). queue m 0 (under None (frame_rows (only t)))) (omega arith)
            ∙ sym (breadth_queue (frame_rows (only t))),
      )

item_set : IsSet (Item FrameContent)
item_set = hlevel (error_set, option_set, ℕ_set)

pub ordered_prop : (o : Option Tree) (order : List Visit) → IsProp (Ordered o order)
ordered_prop None order = hlevel
ordered_prop (Some t) order = hlevel (item_set, is_set, ℕ_set)

-- a report has no more frames than a store
pub report_few : (s : Frames) (x : ℕ) → is_some (reports_of s x) ≡ true → in_report (reports_of s x) ≤ 1024
report_few s x live = ∥∥₁_elim (found s x live) le_prop (λ a. let z = sized s x (in_report (reports_of s x)) a refl in let f = a.placed.fits in omega arith)

-- while some of a report's frames wait
module _ (s : Frames) (x : ℕ) (live : is_some (reports_of s x) ≡ true) (now : List Visit) (i n : ℕ)
    (t : (a : At s x) → Walk (frames_of s) now (size a.kids + 1) i (root x a.tree a.kids)) (all : n ≡ in_report (reports_of s x)) where
  module _ (lt : i < n) where
    -- the frame whose turn it is
    pub record Turn : Type 0 where
      pub here : i < length now
      pub few : i < 1024
      pub below : (get_or now i unvisited).frame < 1024

    turn_prop : IsProp Turn
    turn_prop = hlevel le_prop

    waits : (a : At s x) → i < size a.kids + 1
    waits a = let z = sized s x n a all in omega arith

    pub turn : Turn
    turn = ∥∥₁_elim (found s x live) turn_prop (λ a.
        let b = start _ x a.tree a.kids a.placed in
        let f = a.placed.fits in
        let l = waits a in
        record { here = here _ _ _ b now i (t a) l; few = omega arith; below = frame_below _ _ _ b now i (t a) l })

    -- its children come next, where it was read from a copy of the order
    module _ (copy : List Visit) (same : copy ≡ now) (f : Frame) (is : f ≡ get_or (frames_of s) (get_or copy i unvisited).frame blank) where
      first_is : f.first ≡ (get_or (frames_of s) (get_or now i unvisited).frame blank).first
      first_is = grind (arith, nat_tests)

      pub turn_room : (most : ℕ) → n ≤ most → ∥ ((kids : Numbered) × Room (frames_of s) f.first (length now) most kids) ∥₁
      turn_room most fit = ∥∥₁_map (found s x live) (λ a.
          let b = start _ x a.tree a.kids a.placed in
          let l = waits a in
          let z = sized s x n a all in
          ((v _ _ _ b now i (t a) l).kids, kids_room _ _ _ b now i (t a) l most (omega arith) f.first first_is))

      pub turn_more : (most : ℕ) → n ≤ most → (after : List Visit) → ((kids : Numbered) → Room (frames_of s) f.first (length now) most kids → after ≡ now ++ visits i kids)
          → (a : At s x) → Walk (frames_of s) after (size a.kids + 1) (i + 1) (root x a.tree a.kids)
      turn_more most fit after more a =
          let b = start _ x a.tree a.kids a.placed in
          let l = waits a in
          let z = sized s x n a all in
          walk_more _ _ _ b now i (t a) l after (more _ (kids_room _ _ _ b now i (t a) l most (omega arith) f.first first_is))

  pub all_ordered : n ≤ i → Ordered (reports_of s x) now
  all_ordered le = ∥∥₁_elim (found s x live) (ordered_prop _ _) (λ a.
      let b = start _ x a.tree a.kids a.placed in
      let z = sized s x n a all in
      subst (λ (o : Option Tree). Ordered o now) (sym a.is) (ordered _ x a.tree a.kids a.placed now (walk_all _ _ _ b now i (t a) (omega arith))))
