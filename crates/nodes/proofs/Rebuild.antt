-- The listing of a row can be undone, so a flattening has one tree; and a host that gains errors leaves flattenings as they are.
use Rattle.std.proofs.Common.{◌≡◌, ℕ, zero, suc, ◌+◌, ◌<◌, false, eqb, List, [], ◌∷◌, ◌++◌, map, length, is_some, Some, None, Option, sym, refl, ap, ◌∙◌, ap₂, arith}
use Rattle.std.proofs.lemmas.List.{append-nil, length-map}
use Rattle.std.proofs.lemmas.Bool.{eq-eqb, ne_eqb, cond-true, cond-false}
use Rattle.vocabulary.specs.declared.frame_error.FrameError.{FrameError}
use Rattle.vocabulary.specs.declared.frame_error.FrameError.TheVariants.{Host}
use Rattle.model.specs.Host.{Error, Errors, Live, Lawful, Extends}
use Rattle.model.specs.Sources.{source_of, chain_up_to, bound, chain_from, LiveOrNone}
use Rattle.model.proofs.Sources.{live-told}
use Rattle.trees.specs.Trees.{Forest, empty, tree, Tree, only}
use Rattle.nodes.specs.declared.node.Node.{Node}
use Rattle.nodes.specs.Rows.{Rows, none, node, count, ◌beside◌}
use Rattle.nodes.specs.Breadth.{Item, Entry, under, breadth_first, is_parent, children_at, others, rebuild}
use Rattle.nodes.specs.Nodes.{Content, Nodes, natives, sources_of, expand, nodes_of, explicit, LiveError, LiveForest, LiveTree}
use Rattle.nodes.specs.Flattening.{listed, flattening, unlisted, first_tree, tree_of}
use Rattle.nodes.specs.Begins.{Flattens}
use Rattle.nodes.specs.Queue.{queue, weight}
use Rattle.nodes.proofs.Queue.{weight_append, weight-under, breadth_queue}
use Rattle.nodes.proofs.Waiting.{source_lives}

-- a parent, where there is one, stands before `n`
abbrev pub Before : ℕ → Option ℕ → Type 0
Before n None = Unit {0}
Before n (Some i) = i < n

pub before_more : (n : ℕ) (o : Option ℕ) → Before n o → Before (n + 1) o
before_more n None b = tt
before_more n (Some i) b = omega arith

pub not_parent : (n : ℕ) (o : Option ℕ) → Before n o → is_parent n o ≡ false
not_parent n None b = refl
not_parent n (Some i) b = ne_eqb i n (λ q. omega arith)

module _ {A : Type 0} where
  -- so do the parents of all entries
  abbrev pub AllBefore : ℕ → List (Entry A) → Type 0
  AllBefore n [] = Unit {0}
  AllBefore n (w ∷ ws) = Before n w.parent × AllBefore n ws

  pub all_before_more : (n : ℕ) (ws : List (Entry A)) → AllBefore n ws → AllBefore (n + 1) ws
  all_before_more n [] b = tt
  all_before_more n (w ∷ ws) b = (before_more n w.parent b.0, all_before_more n ws b.1)

  pub all_before_append : (n : ℕ) (ws vs : List (Entry A)) → AllBefore n ws → AllBefore n vs → AllBefore n (ws ++ vs)
  all_before_append n [] vs a b = b
  all_before_append n (w ∷ ws) vs a b = (a.0, all_before_append n ws vs a.1 b)

  pub all_before_under : (n : ℕ) (r : Rows A) → AllBefore (n + 1) (under (Some n) r)
  all_before_under n none = tt
  all_before_under n (node v c r) = (omega arith, all_before_under n r)

  -- the children of a node are found among the entries, and the others stay
  children_under : (n : ℕ) (r : Rows A) → children_at n (under (Some n) r) ≡ r
  children_under n none = refl
  children_under n (node v c r) = cond-true (eqb n n) _ _ (eq-eqb n n refl) ∙ ap (λ (x : Rows A). node v c x) (children_under n r)

  others-under : (n : ℕ) (r : Rows A) → others n (under (Some n) r) ≡ []
  others-under n none = refl
  others-under n (node v c r) = cond-true (eqb n n) _ _ (eq-eqb n n refl) ∙ others-under n r

  children_append : (n : ℕ) (ws vs : List (Entry A)) → AllBefore n ws → children_at n (ws ++ vs) ≡ children_at n vs
  children_append n [] vs b = refl
  children_append n (w ∷ ws) vs b = cond-false (is_parent n w.parent) _ _ (not_parent n w.parent b.0) ∙ children_append n ws vs b.1

  others_append : (n : ℕ) (ws vs : List (Entry A)) → AllBefore n ws → others n (ws ++ vs) ≡ ws ++ others n vs
  others_append n [] vs b = refl
  others_append n (w ∷ ws) vs b =
      cond-false (is_parent n w.parent) _ _ (not_parent n w.parent b.0) ∙ ap (λ (x : List (Entry A)). w ∷ x) (others_append n ws vs b.1)

  -- what was listed from a queue gives the queue again
  pub undo : (f n : ℕ) (ws : List (Entry A)) → weight ws ≡ f → AllBefore n ws → rebuild n (queue f n ws) ≡ ws
  unfolding queue
  undo zero n [] e b = refl
  undo zero n (w ∷ ws) e b = absurd (omega arith)
  undo (suc f) n [] e b = absurd (omega arith)
  undo (suc f) n (w ∷ ws) e b =
      let beneath : List (Entry A) = under (Some n) w.children in
      let a = weight_append ws beneath in
      let u = weight-under (Some n) w.children in
      let all : rebuild (n + 1) (queue f (n + 1) (ws ++ beneath)) ≡ ws ++ beneath =
      undo f (n + 1) (ws ++ beneath) (omega arith) (all_before_append (n + 1) ws beneath (all_before_more n ws b.1) (all_before_under n w.children)) in
      ap (λ (s : List (Entry A)). record { parent = w.parent; value = w.value; children = children_at n s } ∷ others n s) all
      ∙ ap₂ (λ (r : Rows A) (s : List (Entry A)). record { parent = w.parent; value = w.value; children = r } ∷ s)
      (children_append n ws beneath b.1 ∙ children_under n w.children)
      (others_append n ws beneath b.1 ∙ ap (λ (s : List (Entry A)). ws ++ s) (others-under n w.children) ∙ append-nil ws)

  -- all that waits is listed
  pub queue-length : (f n : ℕ) (ws : List (Entry A)) → weight ws ≡ f → length (queue f n ws) ≡ f
  unfolding queue
  queue-length zero n ws e = refl
  queue-length (suc f) n [] e = absurd (omega arith)
  queue-length (suc f) n (w ∷ ws) e =
      let beneath : List (Entry A) = under (Some n) w.children in
      let a = weight_append ws beneath in
      let u = weight-under (Some n) w.children in
      ap suc (queue-length f (n + 1) (ws ++ beneath) (omega arith))

  -- the roots of a row have no parents
  pub all_before_roots : (r : Rows A) → AllBefore 0 (under None r)
  all_before_roots none = tt
  all_before_roots (node v c r) = (tt, all_before_roots r)

  -- what was listed of a row gives its roots again
  pub undo_row : (r : Rows A) → rebuild 0 (breadth_first r) ≡ under None r
  undo_row r = ap (rebuild 0) (breadth_queue r) ∙ undo (count r) 0 (under None r) (weight-under None r) (all_before_roots r)

  -- each node of a row is listed once
  pub breadth_length : (r : Rows A) → length (breadth_first r) ≡ count r
  breadth_length r = ap length (breadth_queue r) ∙ queue-length (count r) 0 (under None r) (weight-under None r)

-- listing loses nothing
pub unlisted-listed : (xs : List (Item Content)) → map unlisted (map listed xs) ≡ xs
unlisted-listed [] = refl
unlisted-listed (x ∷ xs) = ap (λ (ys : List (Item Content)). x ∷ ys) (unlisted-listed xs)

-- sources beside a row are no frames
pub explicit-natives : (p : ℕ) (ds : List ℕ) (r : Nodes) → explicit (natives p ds beside r) ≡ explicit r
explicit-natives p [] r = refl
explicit-natives p (d ∷ ds) r = refl

-- the frames among the nodes of a forest are the forest
pub explicit-expand : (h : Errors) (f : Forest) → explicit (expand h f) ≡ f
explicit-expand h empty = refl
explicit-expand h (tree e p c r) =
    ap₂ (λ (x y : Forest). tree e p x y) (explicit-natives p (sources_of h e) (expand h c) ∙ explicit-expand h c) (explicit-expand h r)

-- the tree of a flattening
pub back : (h : Errors) (t : Tree) → tree_of (flattening h t) ≡ Some t
unfolding tree_of flattening
back h t =
    ap (λ (xs : List (Item Content)). first_tree (rebuild 0 xs)) (unlisted-listed (breadth_first (nodes_of h t)))
    ∙ ap first_tree (undo_row (nodes_of h t))
    ∙ ap (λ (f : Forest). Some (record { error = t.error; place = t.place; children = f }))
    (explicit-natives t.place (sources_of h t.error) (expand h t.children) ∙ explicit-expand h t.children)

-- two trees with one flattening are equal, over two hosts too
pub apart_hosts : (h h' : Errors) (s t : Tree) → flattening h s ≡ flattening h' t → s ≡ t
apart_hosts h h' s t q = let e : Some s ≡ Some t = sym (back h s) ∙ ap tree_of q ∙ back h' t in cc

-- over one host
pub apart : (h : Errors) (s t : Tree) → flattening h s ≡ flattening h t → s ≡ t
apart h s t q = apart_hosts h h s t q

-- a list is the flattening of one tree at most
pub flat_unique : (h : Errors) (xs : List Node) (s t : Tree) → Flattens h xs s → Flattens h xs t → s ≡ t
flat_unique h xs s t a b = apart h s t (a.lists ∙ sym b.lists)

-- a flattening has as many nodes as its tree
pub flattening-length : (h : Errors) (t : Tree) → length (flattening h t) ≡ count (nodes_of h t)
unfolding flattening
flattening-length h t = length-map (breadth_first (nodes_of h t)) listed ∙ breadth_length (nodes_of h t)

-- a host that has gained errors tells the same of those that it had
module _ (h h' : Errors) (more : Extends h h') where
  told_alike : (e : ℕ) → Live h e → h' e ≡ h e
  told_alike e v = let m = live-told (h e) v in more e m.0 m.1 ∙ sym m.1

  -- what was live stays live
  pub live_error_gained : (e : FrameError) → LiveError h e → LiveError h' e
  live_error_gained (Host e) v = ap is_some (told_alike e v) ∙ v

  live_forest_gained : (f : Forest) → LiveForest h f → LiveForest h' f
  live_forest_gained empty v = tt
  live_forest_gained (tree e p c r) v = (live_error_gained e v.0, live_forest_gained c v.1, live_forest_gained r v.2)

  -- so a tree stays one over the host
  pub live-gained : (t : Tree) → LiveTree h t → LiveTree h' t
  live-gained t v = (live_error_gained t.error v.0, live_forest_gained t.children v.1)

  module _ (span : ℕ) (l : Lawful h span) where
    chain-gained : (limit : ℕ) (o : Option ℕ) → LiveOrNone h o → chain_up_to h' limit o ≡ chain_up_to h limit o
    unfolding chain_up_to
    chain-gained zero o v = refl
    chain-gained (suc limit) None v = refl
    chain-gained (suc limit) (Some e) v =
        ap (λ (x : Option Error). e ∷ chain_up_to h' limit (source_of x)) (told_alike e v) ∙ ap (λ (xs : List ℕ). e ∷ xs) (chain-gained limit (source_of (h e)) (source_lives h span l e v))

    sources-gained : (e : FrameError) → LiveError h e → sources_of h' e ≡ sources_of h e
    sources-gained (Host e) v =
        ap (λ (x : Option Error). chain_from h' (source_of x)) (told_alike e v) ∙ chain-gained (bound (source_of (h e))) (source_of (h e)) (source_lives h span l e v)

    expand-gained : (f : Forest) → LiveForest h f → expand h' f ≡ expand h f
    expand-gained empty v = refl
    expand-gained (tree e p c r) v =
        ap₂ (λ (x y : Nodes). node (record { error = e; place = p; native = false }) x y)
        (ap₂ (λ (ds : List ℕ) (x : Nodes). natives p ds beside x) (sources-gained e v.0) (expand-gained c v.1)) (expand-gained r v.2)

    flattening-gained : (t : Tree) → LiveTree h t → flattening h' t ≡ flattening h t
    unfolding flattening
    flattening-gained t v = ap (λ (r : Nodes). map listed (breadth_first r)) (expand-gained (only t) (v.0, v.1, tt))

-- the errors that a host gains leave flattenings as they are
pub gained : (h h' : Errors) (span : ℕ) → Lawful h span → Extends h h' → (t : Tree) → LiveTree h t → flattening h' t ≡ flattening h t
gained h h' span l more t v = flattening-gained h h' more span l t v
