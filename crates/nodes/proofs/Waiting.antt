-- Nodes that wait to be listed: sources, and frames with the frames beneath them, as entries of the queue.
use Rattle.std.proofs.Common.{◌≡◌, ℕ, zero, suc, true, false, List, [], ◌∷◌, ◌++◌, map, Some, None, Option, sym, refl, ap, ◌∙◌, subst, ap₂, add-one, arith}
use Rattle.std.proofs.lemmas.List.{map-append}
use Rattle.vocabulary.specs.declared.frame_error.FrameError.{FrameError}
use Rattle.vocabulary.specs.declared.frame_error.FrameError.TheVariants.{Host}
use Rattle.model.specs.Host.{Error, Errors, Live, Lawful}
use Rattle.model.specs.Sources.{source_of, chain_up_to, chain_from, sources, LiveOrNone}
use Rattle.model.proofs.Sources.{live-told, source-live, chain_is, sources_are}
use Rattle.trees.specs.Trees.{Forest, empty, tree}
use Rattle.nodes.specs.declared.node.Node.{Node}
use Rattle.nodes.specs.declared.node.Note.TheVariants.{Clear as NoNote}
use Rattle.nodes.specs.Rows.{none, node, ◌beside◌}
use Rattle.nodes.specs.Breadth.{Entry, item, under}
use Rattle.nodes.specs.Nodes.{Content, Nodes, frame, source, natives, sources_of, expand, LiveError}
use Rattle.nodes.specs.Flattening.{listed}
use Rattle.nodes.specs.Queue.{queue, weight}
use Rattle.nodes.specs.Check.{error_source}
use Rattle.nodes.proofs.Queue.{weight_append, weight-under}

-- a node that waits to be listed: a source by its parent, error and place, or a frame, with the frames beneath it
pub data Wait : Type 0 where
  as_source : ℕ → ℕ → ℕ → Wait
  as_frame : ℕ → FrameError → ℕ → Forest → Wait

-- it as an entry of the queue
abbrev pub entry : Errors → Wait → Entry Content
entry h (as_source j d p) = record { parent = Some j; value = source d p; children = natives p (sources h d) }
entry h (as_frame j e p k) = record { parent = Some j; value = frame e p; children = natives p (sources_of h e) beside expand h k }

-- it as it is listed
abbrev pub node_of : Wait → Node
node_of (as_source j d p) = record { error = Host d; place = p; native = true; parent = Some j; note = NoNote }
node_of (as_frame j e p k) = record { error = e; place = p; native = false; parent = Some j; note = NoNote }

-- its error is live
abbrev pub LiveWait : Errors → Wait → Type 0
LiveWait h (as_source j d p) = Live h d
LiveWait h (as_frame j e p k) = LiveError h e

-- the frames beneath the node `n`
abbrev pub frames_under : ℕ → Forest → List Wait
frames_under n empty = []
frames_under n (tree e p c r) = as_frame n e p c ∷ frames_under n r

-- the source of the node `n`, if any
abbrev pub source_under : ℕ → ℕ → Option ℕ → List Wait
source_under n p None = []
source_under n p (Some d) = as_source n d p ∷ []

-- the children of a node that is listed at `n`
abbrev pub children_of : Errors → ℕ → Wait → List Wait
children_of h n (as_source j d p) = source_under n p (source_of (h d))
children_of h n (as_frame j e p k) = source_under n p (error_source h e) ++ frames_under n k

-- what is listed from a queue
abbrev pub listing : Errors → ℕ → ℕ → List Wait → List Node
listing h f n q = map listed (queue f n (map (entry h) q))

-- how many nodes a queue has
abbrev pub nodes_in : Errors → List Wait → ℕ
nodes_in h q = weight (map (entry h) q)

module _ (h : Errors) (span : ℕ) (l : Lawful h span) where
  -- what is told of a live error has a live source, if any
  pub source_lives : (e : ℕ) → Live h e → LiveOrNone h (source_of (h e))
  source_lives e v = let m = live-told (h e) v in subst (λ (o : Option Error). LiveOrNone h (source_of o)) (sym m.1) (source-live h span l e m.0 m.1)

  -- the source of a live error is live
  pub error_source_lives : (e : FrameError) → LiveError h e → LiveOrNone h (error_source h e)
  error_source_lives (Host e) v = source_lives e v

  -- the chain of a source, as it waits
  first_is : (n p : ℕ) (o : Option ℕ) → LiveOrNone h o → under (Some n) (natives p (chain_from h o)) ≡ map (entry h) (source_under n p o)
  unfolding chain_up_to
  first_is n p None v = refl
  first_is n p (Some d) v =
      let m = live-told (h d) v in
      ap (λ (ds : List ℕ). under (Some n) (natives p ds)) (chain_is h span l d m.0 m.1 ∙ ap (λ (ds : List ℕ). d ∷ ds) (sym (sources_are h span l d m.0 m.1)))

  frames_are : (n : ℕ) (k : Forest) → under (Some n) (expand h k) ≡ map (entry h) (frames_under n k)
  frames_are n empty = refl
  frames_are n (tree e p c r) = ap (λ (ws : List (Entry Content)). entry h (as_frame n e p c) ∷ ws) (frames_are n r)

  under_beside : (n : ℕ) (r s : Nodes) → under (Some n) (r beside s) ≡ under (Some n) r ++ under (Some n) s
  under_beside n none s = refl
  under_beside n (node v c r) s = ap (λ (ws : List (Entry Content)). record { parent = Some n; value = v; children = c } ∷ ws) (under_beside n r s)

  sources_first : (n p : ℕ) (e : FrameError) → LiveError h e → under (Some n) (natives p (sources_of h e)) ≡ map (entry h) (source_under n p (error_source h e))
  sources_first n p (Host e) v = first_is n p (source_of (h e)) (source_lives e v)

  -- the children of a frame: its source, and the frames beneath it
  pub framed_children : (n p : ℕ) (e : FrameError) (k : Forest) → LiveError h e
      → under (Some n) (natives p (sources_of h e) beside expand h k) ≡ map (entry h) (source_under n p (error_source h e) ++ frames_under n k)
  framed_children n p e k v =
      under_beside n (natives p (sources_of h e)) (expand h k)
      ∙ ap₂ (λ (x y : List (Entry Content)). x ++ y) (sources_first n p e v) (frames_are n k)
      ∙ sym (map-append (entry h) (source_under n p (error_source h e)) (frames_under n k))

  children_are : (n : ℕ) (w : Wait) → LiveWait h w → under (Some n) (entry h w).children ≡ map (entry h) (children_of h n w)
  children_are n (as_source j d p) v = first_is n p (source_of (h d)) (source_lives d v)
  children_are n (as_frame j e p k) v = framed_children n p e k v

  node_is : (w : Wait) → listed (item (entry h w)) ≡ node_of w
  node_is (as_source j d p) = refl
  node_is (as_frame j e p k) = refl

  -- the first is listed, and its children wait behind the others
  pub listing_more : (f n : ℕ) (w : Wait) (q : List Wait) → LiveWait h w → listing h (suc f) n (w ∷ q) ≡ node_of w ∷ listing h f (suc n) (q ++ children_of h n w)
  unfolding queue
  listing_more f n w q v =
      ap₂ (λ (x : Node) (y : List Node). x ∷ y) (node_is w)
      (ap₂ (λ (i : ℕ) (ws : List (Entry Content)). map listed (queue f i ws)) (add-one n)
      (ap (λ (ws : List (Entry Content)). map (entry h) q ++ ws) (children_are n w v) ∙ sym (map-append (entry h) q (children_of h n w))))

  -- one node fewer waits then
  pub nodes_more : (f n : ℕ) (w : Wait) (q : List Wait) → LiveWait h w → nodes_in h (w ∷ q) ≡ suc f → nodes_in h (q ++ children_of h n w) ≡ f
  nodes_more f n w q v e =
      let a = weight_append (map (entry h) q) (under (Some n) (entry h w).children) in
      let u = weight-under (Some n) (entry h w).children in
      let s : weight (map (entry h) q ++ under (Some n) (entry h w).children) ≡ f = omega arith in
      ap weight (map-append (entry h) q (children_of h n w) ∙ ap (λ (ws : List (Entry Content)). map (entry h) q ++ ws) (sym (children_are n w v))) ∙ s

  -- nothing is listed from an empty queue
  pub listing_none : (f n : ℕ) → listing h f n [] ≡ []
  unfolding queue
  listing_none zero n = refl
  listing_none (suc f) n = refl
