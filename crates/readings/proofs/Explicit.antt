-- The frames of a report in the order of its nodes, and the first error that is not live.
use Rattle.std.proofs.Common.{◌≡◌, ℕ, zero, suc, ◌+◌, ◌≤◌, Bool, true, false, cond, ◌&&◌, List, [], ◌∷◌, ◌++◌, map, is_some, Some, None, Option, sym, refl, ap, ◌∙◌, ap₂, arith}
use Rattle.std.proofs.lemmas.List.{append-nil, map-append}
use Rattle.std.proofs.lemmas.Bool.{cond-true, and_parts, and_from}
use Rattle.vocabulary.specs.declared.frame_error.FrameError.{FrameError}
use Rattle.vocabulary.specs.declared.frame_error.FrameError.TheVariants.{Host}
use Rattle.model.specs.Host.{Error, Errors, Lawful}
use Rattle.model.specs.Sources.{chain_up_to, chain_from, bound, source_of, LiveOrNone}
use Rattle.model.proofs.Sources.{live-told, source-live}
use Rattle.trees.specs.Trees.{Forest, empty, tree, Tree, only}
use Rattle.nodes.specs.Rows.{Rows, none, node, ◌beside◌, count}
use Rattle.nodes.specs.Breadth.{Item, Entry, under, breadth_first}
use Rattle.nodes.specs.Nodes.{Content, frame, source, natives, sources_of, expand, nodes_of, LiveError, LiveForest, LiveTree}
use Rattle.nodes.specs.Queue.{queue}
use Rattle.nodes.proofs.Queue.{breadth_queue}
use Rattle.readings.specs.ByFrames.{listed_errors}
use Rattle.readings.specs.Folds.{folded, summed}
use Rattle.readings.specs.Frames.{FrameContent, frame_rows, frame_list, frames_in, over_frames}
use Rattle.readings.specs.Readings.{live_in, first_not_live}
use Rattle.readings.proofs.Folds.{breadth_folded, gathered_beside}
use Rattle.readings.proofs.Least.{and_monoid}
use Rattle.readings.proofs.Sums.{folded_map, frames-folded}

-- a queue without the parents
module _ {A : Type 0} where
  -- the nodes of a row, each with its children
  abbrev roots : Rows A → List (A × Rows A)
  roots none = []
  roots (node v c r) = (v, c) ∷ roots r

  -- the values that a queue lists
  abbrev values : ℕ → List (A × Rows A) → List A
  values zero q = []
  values (suc n) [] = []
  values (suc n) (x ∷ q) = x.0 ∷ values n (q ++ roots x.1)

  -- an entry without its parent
  abbrev bare : Entry A → A × Rows A
  bare w = (w.value, w.children)

  -- how many nodes a queue has
  abbrev size : List (A × Rows A) → ℕ
  size [] = 0
  size (x ∷ q) = (count x.1 + 1) + size q

  size_append : (q r : List (A × Rows A)) → size (q ++ r) ≡ size q + size r
  size_append [] r = omega arith
  size_append (x ∷ q) r = let a = size_append q r in omega arith

  size_roots : (r : Rows A) → size (roots r) ≡ count r
  size_roots none = refl
  size_roots (node v c r) = let a = size_roots r in omega arith

  bare-under : (o : Option ℕ) (r : Rows A) → map bare (under o r) ≡ roots r
  bare-under o none = refl
  bare-under o (node v c r) = ap (λ (q : List (A × Rows A)). (v, c) ∷ q) (bare-under o r)

  queue_values : (n i : ℕ) (ws : List (Entry A)) → map (λ (x : Item A). x.value) (queue n i ws) ≡ values n (map bare ws)
  unfolding queue
  queue_values zero i ws = refl
  queue_values (suc n) i [] = refl
  queue_values (suc n) i (w ∷ ws) =
      ap (λ (xs : List A). w.value ∷ xs)
      (queue_values n (i + 1) (ws ++ under (Some i) w.children)
      ∙ ap (values n) (map-append bare ws (under (Some i) w.children) ∙ ap (λ (q : List (A × Rows A)). map bare ws ++ q) (bare-under (Some i) w.children)))

  breadth_values : (r : Rows A) → map (λ (x : Item A). x.value) (breadth_first r) ≡ values (count r) (roots r)
  breadth_values r = ap (map (λ (x : Item A). x.value)) (breadth_queue r) ∙ queue_values (count r) 0 (under None r) ∙ ap (values (count r)) (bare-under None r)

  values_none : (n : ℕ) → values n [] ≡ []
  values_none zero = refl
  values_none (suc n) = refl

  roots_beside : (r s : Rows A) → roots (r beside s) ≡ roots r ++ roots s
  roots_beside none s = refl
  roots_beside (node v c r) s = ap (λ (q : List (A × Rows A)). (v, c) ∷ q) (roots_beside r s)

-- a node that waits: a source with its place, its error and the sources beneath it; or a frame with its children
data Waiting : Type 0 where
  sourced : ℕ → ℕ → List ℕ → Waiting
  framed : FrameError → ℕ → Forest → Waiting

-- sources that wait, as children of what stands above them
abbrev waiting_sources : ℕ → List ℕ → List Waiting
waiting_sources p [] = []
waiting_sources p (d ∷ ds) = sourced p d ds ∷ []

-- frames that wait
abbrev waiting_frames : Forest → List Waiting
waiting_frames empty = []
waiting_frames (tree e p c r) = framed e p c ∷ waiting_frames r

-- the frames among what waits
abbrev frame_queue : List Waiting → List (FrameContent × Rows FrameContent)
frame_queue [] = []
frame_queue (sourced p d ds ∷ ws) = frame_queue ws
frame_queue (framed e p c ∷ ws) = (record { error = e; place = p }, frame_rows c) ∷ frame_queue ws

frames_waiting : (c : Forest) → frame_queue (waiting_frames c) ≡ roots (frame_rows c)
frames_waiting empty = refl
frames_waiting (tree e p c r) = ap (λ (q : List (FrameContent × Rows FrameContent)). (record { error = e; place = p }, frame_rows c) ∷ q) (frames_waiting r)

frames_append : (q r : List Waiting) → frame_queue (q ++ r) ≡ frame_queue q ++ frame_queue r
frames_append [] r = refl
frames_append (sourced p d ds ∷ q) r = frames_append q r
frames_append (framed e p c ∷ q) r = ap (λ (z : List (FrameContent × Rows FrameContent)). (record { error = e; place = p }, frame_rows c) ∷ z) (frames_append q r)

no_frames : (p : ℕ) (ds : List ℕ) → frame_queue (waiting_sources p ds) ≡ []
no_frames p [] = refl
no_frames p (d ∷ ds) = refl

module _ (h : Errors) where
  -- what waits, as nodes
  abbrev content : Waiting → Content × Rows Content
  content (sourced p d ds) = (source d p, natives p ds)
  content (framed e p c) = (frame e p, natives p (sources_of h e) beside expand h c)

  sources_content : (p : ℕ) (ds : List ℕ) → map content (waiting_sources p ds) ≡ roots (natives p ds)
  sources_content p [] = refl
  sources_content p (d ∷ ds) = refl

  frames_content : (c : Forest) → map content (waiting_frames c) ≡ roots (expand h c)
  frames_content empty = refl
  frames_content (tree e p c r) = ap (λ (q : List (Content × Rows Content)). (frame e p, natives p (sources_of h e) beside expand h c) ∷ q) (frames_content r)

  -- the children of what was listed wait
  after_source : (ws : List Waiting) (p : ℕ) (ds : List ℕ) → map content (ws ++ waiting_sources p ds) ≡ map content ws ++ roots (natives p ds)
  after_source ws p ds = map-append content ws (waiting_sources p ds) ∙ ap (λ (q : List (Content × Rows Content)). map content ws ++ q) (sources_content p ds)

  after_frame : (ws : List Waiting) (e : FrameError) (p : ℕ) (c : Forest)
      → map content (ws ++ (waiting_sources p (sources_of h e) ++ waiting_frames c)) ≡ map content ws ++ roots (natives p (sources_of h e) beside expand h c)
  after_frame ws e p c =
      map-append content ws (waiting_sources p (sources_of h e) ++ waiting_frames c)
      ∙ ap (λ (q : List (Content × Rows Content)). map content ws ++ q)
      (map-append content (waiting_sources p (sources_of h e)) (waiting_frames c)
      ∙ ap₂ (λ (a b : List (Content × Rows Content)). a ++ b) (sources_content p (sources_of h e)) (frames_content c)
      ∙ sym (roots_beside (natives p (sources_of h e)) (expand h c)))

  frames_after_source : (ws : List Waiting) (p : ℕ) (ds : List ℕ) → frame_queue (ws ++ waiting_sources p ds) ≡ frame_queue ws
  frames_after_source ws p ds = frames_append ws (waiting_sources p ds) ∙ ap (λ (q : List (FrameContent × Rows FrameContent)). frame_queue ws ++ q) (no_frames p ds) ∙ append-nil (frame_queue ws)

  frames_after_frame : (ws : List Waiting) (p : ℕ) (ds : List ℕ) (c : Forest) → frame_queue (ws ++ (waiting_sources p ds ++ waiting_frames c)) ≡ frame_queue ws ++ roots (frame_rows c)
  frames_after_frame ws p ds c =
      frames_append ws (waiting_sources p ds ++ waiting_frames c)
      ∙ ap (λ (q : List (FrameContent × Rows FrameContent)). frame_queue ws ++ q)
      (frames_append (waiting_sources p ds) (waiting_frames c) ∙ ap₂ (λ (a b : List (FrameContent × Rows FrameContent)). a ++ b) (no_frames p ds) (frames_waiting c))

  -- the two queues go queues-agree
  queues_agree : (n m : ℕ) (ws : List Waiting) → size (map content ws) ≤ n → size (frame_queue ws) ≤ m → frames_in (values n (map content ws)) ≡ values m (frame_queue ws)
  queues_agree zero m [] a b = sym (values_none m)
  queues_agree zero m (sourced p d ds ∷ ws) a b = absurd (omega arith)
  queues_agree zero m (framed e p c ∷ ws) a b = absurd (omega arith)
  queues_agree (suc n) m [] a b = sym (values_none m)
  queues_agree (suc n) m (sourced p d ds ∷ ws) a b =
      let x = size_append (map content ws) (roots (natives p ds)) in
      let y = size_roots (natives p ds) in
      let z = ap size (after_source ws p ds) in
      let w = ap size (frames_after_source ws p ds) in
      sym (ap (λ (q : List (Content × Rows Content)). frames_in (values n q)) (after_source ws p ds))
      ∙ queues_agree n m (ws ++ waiting_sources p ds) (omega arith) (omega arith)
      ∙ ap (values m) (frames_after_source ws p ds)
  queues_agree (suc n) zero (framed e p c ∷ ws) a b = absurd (omega arith)
  queues_agree (suc n) (suc m) (framed e p c ∷ ws) a b =
      let new = waiting_sources p (sources_of h e) ++ waiting_frames c in
      let x = size_append (map content ws) (roots (natives p (sources_of h e) beside expand h c)) in
      let y = size_roots (natives p (sources_of h e) beside expand h c) in
      let z = ap size (after_frame ws e p c) in
      let u = size_append (frame_queue ws) (roots (frame_rows c)) in
      let v = size_roots (frame_rows c) in
      let w = ap size (frames_after_frame ws p (sources_of h e) c) in
      ap (λ (fs : List FrameContent). record { error = e; place = p } ∷ fs)
      (sym (ap (λ (q : List (Content × Rows Content)). frames_in (values n q)) (after_frame ws e p c))
      ∙ queues_agree n m (ws ++ new) (omega arith) (omega arith)
      ∙ ap (values m) (frames_after_frame ws p (sources_of h e) c))

  -- the frames among the nodes of a report, breadth-first, are its frames breadth-first
  pub frames-listed : (t : Tree) → frames_in (map (λ (x : Item Content). x.value) (breadth_first (nodes_of h t))) ≡ map (λ (x : Item FrameContent). x.value) (frame_list t)
  frames-listed t =
      let x = ap size (frames_content (only t)) in
      let y = size_roots (expand h (only t)) in
      let z = ap size (frames_waiting (only t)) in
      let w = size_roots (frame_rows (only t)) in
      ap frames_in (breadth_values (nodes_of h t) ∙ ap (values (count (nodes_of h t))) (sym (frames_content (only t))))
      ∙ queues_agree (count (nodes_of h t)) (count (frame_rows (only t))) (waiting_frames (only t)) (omega arith) (omega arith)
      ∙ ap (values (count (frame_rows (only t)))) (frames_waiting (only t))
      ∙ sym (breadth_values (frame_rows (only t)))

  -- a source is live
  abbrev live_source : Content → Bool
  live_source v = cond v.native (live_in h v.error) true

  -- passing over the sources
  first_frames : (vs : List Content) → folded ◌&&◌ true live_source vs ≡ true → first_not_live h (map (λ (v : Content). v.error) vs) ≡ first_not_live h (map (λ (x : FrameContent). x.error) (frames_in vs))
  first_frames [] q = refl
  first_frames (v ∷ vs) q =
      let s = and_parts (live_source v) (folded ◌&&◌ true live_source vs) q in
      go v.native v.error s.0 (first_frames vs s.1)
    where
      go : (b : Bool) (e : FrameError) → cond b (live_in h e) true ≡ true → first_not_live h (map (λ (v : Content). v.error) vs) ≡ first_not_live h (map (λ (x : FrameContent). x.error) (frames_in vs))
          → first_not_live h (e ∷ map (λ (v : Content). v.error) vs) ≡ first_not_live h (map (λ (x : FrameContent). x.error) (cond b (frames_in vs) (record { error = e; place = v.place } ∷ frames_in vs)))
      go true (Host e) s r = cond-true (is_some (h e)) _ _ s ∙ r
      go false (Host e) s r = ap (λ (o : Option ℕ). cond (is_some (h e)) o (Some e)) r

  module _ (span : ℕ) (l : Lawful h span) where
    chain-live : (n p : ℕ) (o : Option ℕ) → LiveOrNone h o → summed ◌&&◌ true live_source (natives p (chain_up_to h n o)) ≡ true
    unfolding chain_up_to
    chain-live zero p o v = refl
    chain-live (suc n) p None v = refl
    chain-live (suc n) p (Some d) v =
        let t = live-told (h d) v in
        let rest : summed ◌&&◌ true live_source (natives p (chain_up_to h n (source_of (h d)))) ≡ true =
        ap (λ (o : Option Error). summed ◌&&◌ true live_source (natives p (chain_up_to h n (source_of o)))) t.1 ∙ chain-live n p t.0.source (source-live h span l d t.0 t.1) in
        and_from _ true (and_from (is_some (h d)) _ v rest) refl

    sources-live : (p : ℕ) (e : FrameError) → summed ◌&&◌ true live_source (natives p (sources_of h e)) ≡ true
    sources-live p (Host e) = go (h e) refl
      where
        go : (o : Option Error) → h e ≡ o → summed ◌&&◌ true live_source (natives p (chain_from h (source_of o))) ≡ true
        go None q = chain-live 0 p None tt
        go (Some m) q = chain-live (bound m.source) p m.source (source-live h span l e m q)

    expand-live : (w : Forest) → summed ◌&&◌ true live_source (expand h w) ≡ true
    expand-live empty = refl
    expand-live (tree e p c r) =
        and_from _ _
        (gathered_beside ◌&&◌ true and_monoid (λ (v : Content) (b : Bool). live_source v && b) (natives p (sources_of h e)) (expand h c) ∙ and_from _ _ (sources-live p e) (expand-live c))
        (expand-live r)

    -- the first error of a report that is not live is that of a frame
    pub first_not_live_lem : (t : Tree) → first_not_live h (map (λ (v : Content). v.error) (map (λ (x : Item Content). x.value) (breadth_first (nodes_of h t)))) ≡ first_not_live h (map (λ (x : FrameContent). x.error) (map (λ (x : Item FrameContent). x.value) (frame_list t)))
    first_not_live_lem t =
        first_frames (map (λ (x : Item Content). x.value) (breadth_first (nodes_of h t)))
        (folded_map ◌&&◌ true live_source (λ (x : Item Content). x.value) (breadth_first (nodes_of h t)) ∙ breadth_folded ◌&&◌ true and_monoid live_source (nodes_of h t) ∙ expand-live (only t))
        ∙ ap (λ (fs : List FrameContent). first_not_live h (map (λ (x : FrameContent). x.error) fs)) (frames-listed t)

-- no error that is not live is found where all are live, and only there
not_live-none : (h : Errors) (es : List FrameError) → folded ◌&&◌ true (live_in h) es ≡ true → first_not_live h es ≡ None
not_live-none h [] q = refl
not_live-none h (Host e ∷ es) q =
    let s = and_parts (is_some (h e)) (folded ◌&&◌ true (live_in h) es) q in
    cond-true (is_some (h e)) _ _ s.0 ∙ not_live-none h es s.1

none-live : (h : Errors) (es : List FrameError) → first_not_live h es ≡ None → folded ◌&&◌ true (live_in h) es ≡ true
none-live h [] q = refl
none-live h (Host e ∷ es) q = go (is_some (h e)) q (none-live h es)
  where
    go : (b : Bool) → cond b (first_not_live h es) (Some e) ≡ None → (first_not_live h es ≡ None → folded ◌&&◌ true (live_in h) es ≡ true) → (b && folded ◌&&◌ true (live_in h) es) ≡ true
    go true q r = r q
    go false q r = absurd (cc)

live_error : (h : Errors) (e : FrameError) → LiveError h e → live_in h e ≡ true
live_error h (Host e) v = v

error_live : (h : Errors) (e : FrameError) → live_in h e ≡ true → LiveError h e
error_live h (Host e) v = v

live-forest : (h : Errors) (w : Forest) → LiveForest h w → over_frames ◌&&◌ true (live_in h) w ≡ true
live-forest h empty v = refl
live-forest h (tree e p c r) v = and_from _ _ (and_from _ _ (live_error h e v.0) (live-forest h c v.1)) (live-forest h r v.2)

forest-live : (h : Errors) (w : Forest) → over_frames ◌&&◌ true (live_in h) w ≡ true → LiveForest h w
forest-live h empty q = tt
forest-live h (tree e p c r) q =
    let a = and_parts (live_in h e && over_frames ◌&&◌ true (live_in h) c) (over_frames ◌&&◌ true (live_in h) r) q in
    let b = and_parts (live_in h e) (over_frames ◌&&◌ true (live_in h) c) a.0 in
    (error_live h e b.0, forest-live h c b.1, forest-live h r a.1)

-- the listed frames are live exactly where the forest is
live-listed : (h : Errors) (t : Tree) → folded ◌&&◌ true (live_in h) (listed_errors (frame_list t)) ≡ over_frames ◌&&◌ true (live_in h) (only t)
live-listed h t = folded_map ◌&&◌ true (live_in h) (λ (x : Item FrameContent). x.value.error) (frame_list t) ∙ sym (frames-folded ◌&&◌ true and_monoid (live_in h) (only t))

-- of a live report none is found
pub listed-live : (h : Errors) (t : Tree) → LiveTree h t → first_not_live h (listed_errors (frame_list t)) ≡ None
listed-live h t v = not_live-none h (listed_errors (frame_list t)) (live-listed h t ∙ live-forest h (only t) (v.0, v.1, tt))

-- and where none is found the report is live
pub tree_live : (h : Errors) (t : Tree) → first_not_live h (listed_errors (frame_list t)) ≡ None → LiveTree h t
tree_live h t q = let v = forest-live h (only t) (sym (live-listed h t) ∙ none-live h (listed_errors (frame_list t)) q) in (v.0, v.1)
