-- The check of a list: nodes that fit one by one begin a flattening, and one that does not fit begins none.
use Rattle.std.proofs.Common.{◌≡◌, ℕ, zero, suc, ◌+◌, ◌-◌, ◌<◌, ◌≤◌, false, List, [], ◌∷◌, ◌++◌, map, length, take, Some, None, sym, refl, ap, ◌∙◌, subst, ap₂, inl, ⊎_elim, arith}
use Rattle.std.proofs.lemmas.List.{append-nil, take_all}
use Rattle.std.proofs.lemmas.Bool.{cases_eq, cond-false}
use Rattle.model.specs.Host.{Errors, Lawful}
use Rattle.trees.specs.Trees.{Forest, Tree}
use Rattle.nodes.specs.declared.node.Node.{Node}
use Rattle.nodes.specs.declared.node.Note.TheVariants.{Clear as NoNote}
use Rattle.nodes.specs.Rows.{count, ◌beside◌}
use Rattle.nodes.specs.Breadth.{Entry, under}
use Rattle.nodes.specs.Nodes.{Content, Nodes, natives, sources_of, expand, nodes_of, LiveError, LiveForest, LiveTree}
use Rattle.nodes.specs.Flattening.{listed, flattening}
use Rattle.nodes.specs.Begins.{Flat, Begins}
use Rattle.nodes.specs.Queue.{queue, weight}
use Rattle.nodes.specs.Check.{node_at, error_source, Sourceless, Root}
use Rattle.nodes.proofs.Queue.{weight-under, breadth_queue}
use Rattle.nodes.proofs.Waiting.{Wait, entry, frames_under, source_under, listing, nodes_in, error_source_lives, framed_children}
use Rattle.nodes.proofs.Fits.{Fits, src, Split, split, nothing_first, owes, fits_children}
use Rattle.nodes.proofs.Steps.{index, last_parent, owed_from, Step, source_step, frame_step, part, part_more, owed_low, Found, find, Passed, pass}

module _ (h : Errors) (span : ℕ) (l : Lawful h span) where
  -- the root of a tree is listed, and then its children
  tree_listing : (t : Tree) → LiveError h t.error → (q : List Wait) → q ≡ source_under 0 t.place (error_source h t.error) ++ frames_under 0 t.children
      → flattening h t ≡ record { error = t.error; place = t.place; native = false; parent = None; note = NoNote } ∷ listing h (nodes_in h q) 1 q
  unfolding flattening queue
  tree_listing t v q is =
      let beneath : Nodes = natives t.place (sources_of h t.error) beside expand h t.children in
      let same : under (Some 0) beneath ≡ map (entry h) q = framed_children h span l 0 t.place t.error t.children v ∙ ap (map (entry h)) (sym is) in
      let size : count (nodes_of h t) ≡ suc (nodes_in h q) =
      (let a = weight-under (Some 0) beneath in let b : weight (under (Some 0) beneath) ≡ nodes_in h q = ap weight same in omega arith) in
      ap (map listed) (breadth_queue (nodes_of h t))
      ∙ ap (λ (f : ℕ). map listed (queue f 0 (under None (nodes_of h t)))) size
      ∙ ap (λ (ws : List (Entry Content)). record { error = t.error; place = t.place; native = false; parent = None; note = NoNote } ∷ map listed (queue (nodes_in h q) 1 ws)) same

  module _ (xs : List Node) where
    -- the first `i` nodes passed the check
    pub record Accepted (i : ℕ) : Type 0 where
      pub some : 0 < i
      pub within : i ≤ length xs
      pub root : Root h (node_at xs 0)
      pub steps : (k : ℕ) → 0 < k → k < i → Step h xs k

    -- the root as it is listed
    root_node : Root h (node_at xs 0) → node_at xs 0 ≡ record { error = (node_at xs 0).error; place = (node_at xs 0).place; native = false; parent = None; note = NoNote }
    root_node r = λ i. record { error = (node_at xs 0).error; place = (node_at xs 0).place; native = r.frame i; parent = r.orphan i; note = r.clear i }

    root_last : Root h (node_at xs 0) → last_parent xs 1 ≡ 0
    root_last r = ap index r.orphan

    root_owed : Root h (node_at xs 0) → owed_from xs 1 ≡ 0
    root_owed r = cond-false (node_at xs 0).native (suc (index (node_at xs 0).parent)) 0 r.frame

    -- a tree whose flattening begins with the nodes, and goes on with what is listed from the queue `z`
    record Witness (i : ℕ) (z : List Wait) : Type 0 where
      tree_is : Tree
      live : LiveTree h tree_is
      lists : flattening h tree_is ≡ take i xs ++ listing h (nodes_in h z) i z

    witness_from : (m : ℕ) (z : List Wait) (row : Forest) → Accepted (suc m) → LiveForest h row → (r : Found h xs span l 1 m z)
        → r.waits ≡ source_under 0 (node_at xs 0).place (src h xs 0) ++ frames_under 0 row → Witness (suc m) z
    witness_from m z row a v r q =
        let fit = a.within in
        record {
          tree_is = record { error = (node_at xs 0).error; place = (node_at xs 0).place; children = row };
          live = (a.root.live, v);
          lists = tree_listing (record { error = (node_at xs 0).error; place = (node_at xs 0).place; children = row }) a.root.live r.waits q
              ∙ ap₂ (λ (x : Node) (y : List Node). x ∷ y) (sym (root_node a.root)) (r.lists (nodes_in h r.waits) refl)
              ∙ ap₂ (λ (y : List Node) (i : ℕ). y ++ listing h (nodes_in h z) i z) (sym (part_more h xs 0 m (omega arith))) (omega arith);
        }

    -- all that waits after the root is beneath it
    beneath_root : (q : List Wait) (t : Split h xs 0 0 0 q) → q ≡ source_under 0 (node_at xs 0).place (src h xs 0) ++ frames_under 0 t.row
    beneath_root q t = t.is ∙ ap (λ (y : List Wait). y ++ (source_under 0 (node_at xs 0).place (src h xs 0) ++ frames_under 0 t.row)) (nothing_first h xs 0 0 t.front t.fits)

    witness : (i : ℕ) (z : List Wait) → Accepted i → Fits h xs i (last_parent xs i) (owed_from xs i) z → Witness i z
    witness zero z a f = absurd (let b = a.some in omega arith)
    witness (suc m) z a f =
        let r = find h xs span l (suc m) a.within a.root.frame a.steps m 1 z (omega arith) (omega arith) f in
        let g : Fits h xs 1 0 0 r.waits = subst (λ (x : ℕ). Fits h xs 1 0 x r.waits) (root_owed a.root) (subst (λ (x : ℕ). Fits h xs 1 x (owed_from xs 1) r.waits) (root_last a.root) r.fits) in
        let t = split h xs 0 0 0 r.waits (omega arith) g in
        witness_from m z t.row a t.live r (beneath_root r.waits t)

    -- the errors of nodes that passed are live
    step_lives : (k : ℕ) → Step h xs k → LiveError h (node_at xs k).error
    step_lives k (source_step j d p is w) = subst (λ (x : Node). LiveError h x.error) (sym is) w.live
    step_lives k (frame_step j e p is w) = subst (λ (x : Node). LiveError h x.error) (sym is) w.live

    node_lives : (i : ℕ) → Accepted i → (k : ℕ) → k < i → LiveError h (node_at xs k).error
    node_lives i a k b = ⊎_elim (λ z. subst (λ (x : ℕ). LiveError h (node_at xs x).error) (sym z) a.root.live) (λ z. step_lives k (a.steps k (omega arith) b)) (cases_eq k 0)

    -- nodes that passed begin a flattening
    pub accepted_begins : (i : ℕ) → Accepted i → Begins h (take i xs)
    accepted_begins i a =
        let low = owed_low h xs i a.steps a.root.frame in
        let o = owes h xs (i - owed_from xs i) i (last_parent xs i) (owed_from xs i) (omega arith) (λ k b. error_source_lives h span l (node_at xs k).error (node_lives i a k b)) in
        let w = witness i o.0 a o.1 in
        record { tree = w.tree_is; rest = listing h (nodes_in h o.0) i o.0; live = w.live; lists = w.lists }

    -- a whole list that passed, with no source owed, is a flattening
    pub accepted_flat : Accepted (length xs) → Sourceless h xs (owed_from xs (length xs)) (length xs) → Flat h xs
    unfolding queue
    accepted_flat a s =
        let w = witness (length xs) [] a s in
        (w.tree_is, record { live = w.live; lists = w.lists ∙ append-nil (take (length xs) xs) ∙ take_all (length xs) xs (omega arith) })

    -- the other way: the first nodes of a flattening pass
    pub record Begun (m : ℕ) (rest : List Node) : Type 0 where
      pub root : Root h (node_at xs 0)
      pub passed : Passed h xs span l 1 m rest

    begun : (m : ℕ) (t : Tree) (rest : List Node) → suc m ≤ length xs → LiveTree h t → flattening h t ≡ take (suc m) xs ++ rest → Begun m rest
    begun m t rest fit v is =
        let beneath : List Wait = source_under 0 t.place (error_source h t.error) ++ frames_under 0 t.children in
        let both : record { error = t.error; place = t.place; native = false; parent = None; note = NoNote } ∷ listing h (nodes_in h beneath) 1 beneath ≡ node_at xs 0 ∷ (part xs 1 m ++ rest) =
        sym (tree_listing t v.0 beneath refl) ∙ is ∙ ap (λ (y : List Node). y ++ rest) (part_more h xs 0 m (omega arith)) in
        let here : node_at xs 0 ≡ record { error = t.error; place = t.place; native = false; parent = None; note = NoNote } = cc in
        let after : listing h (nodes_in h beneath) 1 beneath ≡ part xs 1 m ++ rest = cc in
        let r : Root h (node_at xs 0) = record {
          clear = ap (λ (x : Node). x.note) here;
          live = subst (λ (x : Node). LiveError h x.error) (sym here) v.0;
          frame = ap (λ (x : Node). x.native) here;
          orphan = ap (λ (x : Node). x.parent) here;
        } in
        let f : Fits h xs 1 0 0 beneath = fits_children h xs 0 t.place (error_source h t.error) t.children
        (ap (λ (x : Node). error_source h x.error) here) (ap (λ (x : Node). x.place) here) (error_source_lives h span l t.error v.0) v.1 (inl r.frame) in
        let lp = root_last r in
        let ow = root_owed r in
        record {
          root = r;
          passed = pass h xs span l m 1 (nodes_in h beneath) beneath rest (omega arith) (omega arith) (omega arith) refl
              (subst (λ (x : ℕ). Fits h xs 1 x (owed_from xs 1) beneath) (sym lp) (subst (λ (x : ℕ). Fits h xs 1 0 x beneath) (sym ow) f)) after;
        }

    -- the first node of a flattening is a root
    pub begins_root : 0 < length xs → Begins h (take 1 xs) → Root h (node_at xs 0)
    begins_root fit b = (begun 0 b.tree b.rest fit b.live b.lists).root

    -- a later one fits those before it
    pub begins_step : (i : ℕ) → 0 < i → i < length xs → Begins h (take (suc i) xs) → Step h xs i
    begins_step i a fit b = (begun i b.tree b.rest fit b.live b.lists).passed.steps i a (omega arith)

    -- no source is owed at the end of a flattening
    nothing_left : (n : ℕ) (q : List Wait) → (lo c : ℕ) → Fits h xs n lo c q → listing h (nodes_in h q) n q ≡ [] → Sourceless h xs c n
    unfolding queue
    nothing_left n [] lo c f e = f
    nothing_left n (w ∷ q) lo c f e = absurd (go (nodes_in h (w ∷ q)) refl e)
      where
        go : (s : ℕ) → nodes_in h (w ∷ q) ≡ s → listing h s n (w ∷ q) ≡ [] → ⊥
        go zero z e = omega arith
        go (suc s) z e = cc

    -- a whole flattening owes no source
    pub flat_owes : (m : ℕ) → suc m ≡ length xs → Flat h xs → Sourceless h xs (owed_from xs (length xs)) (length xs)
    flat_owes m e x =
        let r = (begun m x.0 [] (omega arith) x.1.live (x.1.lists ∙ sym (take_all (suc m) xs (omega arith)) ∙ sym (append-nil (take (suc m) xs)))).passed in
        let same : 1 + m ≡ length xs = omega arith in
        subst (λ (n : ℕ). Sourceless h xs (owed_from xs n) n) same (nothing_left (1 + m) r.left (last_parent xs (1 + m)) (owed_from xs (1 + m)) r.fits r.lists)
