-- Nodes that fit one by one are listed from a queue, and what is listed from a queue fits node by node.
use Rattle.std.proofs.Common.{◌≡◌, ℕ, zero, suc, ◌+◌, ◌<◌, ◌≤◌, true, false, cond, List, [], ◌∷◌, ◌++◌, length, take, drop, Option, unwrap_or, sym, refl, ap, ◌∙◌, subst, ap₂, inl, inr, ⊎_elim, add-one, arith}
use Rattle.std.proofs.lemmas.List.{append-nil, drop_more}
use Rattle.std.proofs.lemmas.Bool.{cases_eq, cond-true, cond-false}
use Rattle.vocabulary.specs.declared.frame_error.FrameError.{FrameError}
use Rattle.vocabulary.specs.declared.frame_error.FrameError.TheVariants.{Host}
use Rattle.model.specs.Host.{Errors, Lawful}
use Rattle.model.specs.Sources.{source_of}
use Rattle.trees.specs.Trees.{Forest, empty}
use Rattle.nodes.specs.declared.node.Node.{Node}
use Rattle.nodes.specs.Check.{blank, node_at, error_source}
use Rattle.nodes.proofs.Waiting.{Wait, as_source, as_frame, node_of, frames_under, source_under, children_of, listing, nodes_in, listing_more, nodes_more, listing_none, error_source_lives}
use Rattle.nodes.proofs.Fits.{SourceWaits, FrameWaits, Fits, src, split, fits_children, fits_append}

-- a parent as a number, 0 for none
abbrev pub index : Option ℕ → ℕ
index o = unwrap_or o 0

-- the parent of the latest of the first `n` nodes
abbrev pub last_parent : List Node → ℕ → ℕ
last_parent xs zero = 0
last_parent xs (suc n) = index (node_at xs n).parent

-- the index after the parent of the latest source among the first `n` nodes: the sources of the nodes before it are listed
abbrev pub owed_from : List Node → ℕ → ℕ
owed_from xs zero = 0
owed_from xs (suc n) = cond (node_at xs n).native (suc (index (node_at xs n).parent)) (owed_from xs n)

-- the node at `n` fits those before it
pub data Step (h : Errors) (xs : List Node) (n : ℕ) : Type 0 where
  source_step : (j d p : ℕ) → node_at xs n ≡ node_of (as_source j d p) → SourceWaits h xs n (owed_from xs n) j d p → Step h xs n
  frame_step : (j : ℕ) (e : FrameError) (p : ℕ) → node_at xs n ≡ node_of (as_frame j e p empty) → FrameWaits h xs n (last_parent xs n) (owed_from xs n) j e → Step h xs n

-- `m` nodes from `n` on
abbrev pub part : List Node → ℕ → ℕ → List Node
part xs n m = take m (drop n xs)

module _ (h : Errors) (xs : List Node) where
  -- one node, and those after it
  pub part_more : (n m : ℕ) → n < length xs → part xs n (suc m) ≡ node_at xs n ∷ part xs (suc n) m
  part_more n m b = ap (take (suc m)) (drop_more xs n blank b ∙ ap (λ (i : ℕ). node_at xs n ∷ drop i xs) (add-one n))

  -- what a listed source and a listed frame tell of the nodes after them
  module _ (n j d p : ℕ) (is : node_at xs n ≡ node_of (as_source j d p)) where
    source_native : (node_at xs n).native ≡ true
    source_native = ap (λ (x : Node). x.native) is

    source_last : last_parent xs (suc n) ≡ j
    source_last = ap (λ (x : Node). index x.parent) is

    source_owed : owed_from xs (suc n) ≡ suc j
    source_owed = cond-true (node_at xs n).native _ _ source_native ∙ ap suc source_last

    source_src : src h xs n ≡ source_of (h d)
    source_src = ap (λ (x : Node). error_source h x.error) is

    source_place : (node_at xs n).place ≡ p
    source_place = ap (λ (x : Node). x.place) is

  module _ (n j : ℕ) (e : FrameError) (p : ℕ) (is : node_at xs n ≡ node_of (as_frame j e p empty)) where
    frame_native : (node_at xs n).native ≡ false
    frame_native = ap (λ (x : Node). x.native) is

    frame_last : last_parent xs (suc n) ≡ j
    frame_last = ap (λ (x : Node). index x.parent) is

    frame_owed : owed_from xs (suc n) ≡ owed_from xs n
    frame_owed = cond-false (node_at xs n).native _ _ frame_native

    frame_src : src h xs n ≡ error_source h e
    frame_src = ap (λ (x : Node). error_source h x.error) is

    frame_place : (node_at xs n).place ≡ p
    frame_place = ap (λ (x : Node). x.place) is

  -- the sources of the nodes before `n` alone are owed
  owed_more : (n : ℕ) → (n ≡ 0 → (node_at xs 0).native ≡ false) → (0 < n → Step h xs n) → owed_from xs n ≤ n → owed_from xs (suc n) ≤ suc n
  owed_more n r s low = ⊎_elim at_first (λ z. by_step (s (omega arith))) (cases_eq n 0)
    where
      at_first : n ≡ 0 → owed_from xs (suc n) ≤ suc n
      at_first z =
          let frame : (node_at xs n).native ≡ false = ap (λ (x : ℕ). (node_at xs x).native) z ∙ r z in
          let same = cond-false (node_at xs n).native (suc (index (node_at xs n).parent)) (owed_from xs n) frame in
          omega arith

      by_step : Step h xs n → owed_from xs (suc n) ≤ suc n
      by_step (source_step j d p is w) = let b = w.below in let same = source_owed n j d p is in omega arith
      by_step (frame_step j e p is w) = let same = frame_owed n j e p is in omega arith

  -- so after all nodes that fit
  pub owed_low : (n : ℕ) → ((k : ℕ) → 0 < k → k < n → Step h xs k) → (node_at xs 0).native ≡ false → owed_from xs n ≤ n
  owed_low zero s r = omega arith
  owed_low (suc n) s r = owed_more n (λ _. r) (λ a. s n a (omega arith)) (owed_low n (λ k a b. s k a (omega arith)) r)

  module _ (span : ℕ) (l : Lawful h span) where
    -- a queue from which the nodes from `n` on are listed, and then what is listed from the queue `z`
    pub record Found (n m : ℕ) (z : List Wait) : Type 0 where
      pub waits : List Wait
      pub fits : Fits h xs n (last_parent xs n) (owed_from xs n) waits
      pub lists : (f : ℕ) → nodes_in h waits ≡ f → listing h f n waits ≡ part xs n m ++ listing h (nodes_in h z) (n + m) z

    module _ (last : ℕ) (fit : last ≤ length xs) (root : (node_at xs 0).native ≡ false) (steps : (k : ℕ) → 0 < k → k < last → Step h xs k) where
      -- one node more at the front
      by_source : (n m : ℕ) (z : List Wait) → n < last → (j d p : ℕ) → node_at xs n ≡ node_of (as_source j d p) → SourceWaits h xs n (owed_from xs n) j d p → Found (suc n) m z → Found n (suc m) z
      by_source n m z b j d p is w r =
          let low = w.below in
          let g : Fits h xs (suc n) j (suc j) r.waits = subst (λ (x : ℕ). Fits h xs (suc n) j x r.waits) (source_owed n j d p is) (subst (λ (x : ℕ). Fits h xs (suc n) x (owed_from xs (suc n)) r.waits) (source_last n j d p is) r.fits) in
          let t = split h xs n j (suc j) r.waits low g in
          let q : r.waits ≡ t.front ++ source_under n p (source_of (h d)) =
          t.is
          ∙ ap (λ (k : Forest). t.front ++ (source_under n (node_at xs n).place (src h xs n) ++ frames_under n k)) (t.bare (source_native n j d p is))
          ∙ ap (λ (y : List Wait). t.front ++ y) (append-nil (source_under n (node_at xs n).place (src h xs n)))
          ∙ ap₂ (λ (x : ℕ) (o : Option ℕ). t.front ++ source_under n x o) (source_place n j d p is) (source_src n j d p is) in
          record {
            waits = as_source j d p ∷ t.front;
            fits = (w, t.fits);
            lists = go t.front q;
          }
        where
          go : (front : List Wait) → r.waits ≡ front ++ source_under n p (source_of (h d)) → (f : ℕ) → nodes_in h (as_source j d p ∷ front) ≡ f
              → listing h f n (as_source j d p ∷ front) ≡ part xs n (suc m) ++ listing h (nodes_in h z) (n + suc m) z
          go front q zero e = absurd (omega arith)
          go front q (suc f) e =
              listing_more h span l f n (as_source j d p) front w.live
              ∙ ap₂ (λ (x : Node) (y : List Wait). x ∷ listing h f (suc n) y) (sym is) (sym q)
              ∙ ap (λ (y : List Node). node_at xs n ∷ y) (r.lists f (ap (nodes_in h) q ∙ nodes_more h span l f n (as_source j d p) front w.live e))
              ∙ ap₂ (λ (y : List Node) (i : ℕ). y ++ listing h (nodes_in h z) i z) (sym (part_more n m (omega arith))) (omega arith)

      by_frame : (n m : ℕ) (z : List Wait) → n < last → owed_from xs n ≤ n → (j : ℕ) (e : FrameError) (p : ℕ) → node_at xs n ≡ node_of (as_frame j e p empty)
          → FrameWaits h xs n (last_parent xs n) (owed_from xs n) j e → Found (suc n) m z → Found n (suc m) z
      by_frame n m z b low j e p is w r =
          let g : Fits h xs (suc n) j (owed_from xs n) r.waits = subst (λ (x : ℕ). Fits h xs (suc n) j x r.waits) (frame_owed n j e p is) (subst (λ (x : ℕ). Fits h xs (suc n) x (owed_from xs (suc n)) r.waits) (frame_last n j e p is) r.fits) in
          let t = split h xs n j (owed_from xs n) r.waits low g in
          let q : r.waits ≡ t.front ++ (source_under n p (error_source h e) ++ frames_under n t.row) =
          t.is ∙ ap₂ (λ (x : ℕ) (o : Option ℕ). t.front ++ (source_under n x o ++ frames_under n t.row)) (frame_place n j e p is) (frame_src n j e p is) in
          record {
            waits = as_frame j e p t.row ∷ t.front;
            fits = (w, t.live, t.fits);
            lists = go t.front t.row q;
          }
        where
          go : (front : List Wait) (row : Forest) → r.waits ≡ front ++ (source_under n p (error_source h e) ++ frames_under n row) → (f : ℕ) → nodes_in h (as_frame j e p row ∷ front) ≡ f
              → listing h f n (as_frame j e p row ∷ front) ≡ part xs n (suc m) ++ listing h (nodes_in h z) (n + suc m) z
          go front row q zero u = absurd (omega arith)
          go front row q (suc f) u =
              listing_more h span l f n (as_frame j e p row) front w.live
              ∙ ap₂ (λ (x : Node) (y : List Wait). x ∷ listing h f (suc n) y) (sym is) (sym q)
              ∙ ap (λ (y : List Node). node_at xs n ∷ y) (r.lists f (ap (nodes_in h) q ∙ nodes_more h span l f n (as_frame j e p row) front w.live u))
              ∙ ap₂ (λ (y : List Node) (i : ℕ). y ++ listing h (nodes_in h z) i z) (sym (part_more n m (omega arith))) (omega arith)

      by_step : (n m : ℕ) (z : List Wait) → n < last → owed_from xs n ≤ n → Step h xs n → Found (suc n) m z → Found n (suc m) z
      by_step n m z b low (source_step j d p is w) r = by_source n m z b j d p is w r
      by_step n m z b low (frame_step j e p is w) r = by_frame n m z b low j e p is w r

      -- from the last node back to the first
      pub find : (m n : ℕ) (z : List Wait) → 0 < n → n + m ≡ last → Fits h xs last (last_parent xs last) (owed_from xs last) z → Found n m z
      find zero n z a e f =
          let same : n ≡ last = omega arith in
          record {
            waits = z;
            fits = subst (λ (x : ℕ). Fits h xs x (last_parent xs x) (owed_from xs x) z) (sym same) f;
            lists = λ g u. ap₂ (λ (x i : ℕ). listing h x i z) (sym u) (omega arith);
          }
      find (suc m) n z a e f =
          by_step n m z (omega arith) (owed_low n (λ k x y. steps k x (omega arith)) root) (steps n a (omega arith)) (find m (suc n) z (omega arith) (omega arith) f)

    -- what is left after nodes were listed, and that they fit
    pub record Passed (n m : ℕ) (rest : List Node) : Type 0 where
      pub steps : (k : ℕ) → n ≤ k → k < n + m → Step h xs k
      pub left : List Wait
      pub fits : Fits h xs (n + m) (last_parent xs (n + m)) (owed_from xs (n + m)) left
      pub lists : listing h (nodes_in h left) (n + m) left ≡ rest

    -- one node more at the front
    passed_more : (n m : ℕ) (rest : List Node) → Step h xs n → Passed (suc n) m rest → Passed n (suc m) rest
    passed_more n m rest s r =
        let same : suc n + m ≡ n + suc m = omega arith in
        record {
          steps = λ k a b. ⊎_elim (λ e. subst (Step h xs) e s) (λ ne. r.steps k (omega arith) (omega arith)) (cases_eq n k);
          left = r.left;
          fits = subst (λ (i : ℕ). Fits h xs i (last_parent xs i) (owed_from xs i) r.left) same r.fits;
          lists = ap (λ (i : ℕ). listing h (nodes_in h r.left) i r.left) (sym same) ∙ r.lists;
        }

    -- equal lists have equal parts
    heads : (a b : Node) (us vs : List Node) → a ∷ us ≡ b ∷ vs → (a ≡ b) × (us ≡ vs)
    heads a b us vs e = ((let x : a ≡ b = cc in x), (let x : us ≡ vs = cc in x))

    -- what is listed from a queue that fits does so too
    pub pass : (m n f : ℕ) (q : List Wait) (rest : List Node) → n + m ≤ length xs → last_parent xs n ≤ n → owed_from xs n ≤ n → nodes_in h q ≡ f
        → Fits h xs n (last_parent xs n) (owed_from xs n) q → listing h f n q ≡ part xs n m ++ rest → Passed n m rest
    pass zero n f q rest fit last low e g is =
        let same : n + 0 ≡ n = omega arith in
        record {
          steps = λ k a b. absurd (omega arith);
          left = q;
          fits = subst (λ (i : ℕ). Fits h xs i (last_parent xs i) (owed_from xs i) q) (sym same) g;
          lists = ap₂ (λ (x i : ℕ). listing h x i q) e same ∙ is;
        }
    pass (suc m) n f [] rest fit last low e g is =
        let none : [] ≡ node_at xs n ∷ (part xs (suc n) m ++ rest) = sym (listing_none h span l f n) ∙ is ∙ ap (λ (y : List Node). y ++ rest) (part_more n m (omega arith)) in
        absurd (cc)
    pass (suc m) n zero (as_source j d p ∷ q) rest fit last low e g is = absurd (omega arith)
    pass (suc m) n zero (as_frame j u p k ∷ q) rest fit last low e g is = absurd (omega arith)
    pass (suc m) n (suc f) (as_source j d p ∷ q) rest fit last low e g is =
        let b = g.0.below in
        let two = heads _ _ _ _ (sym (listing_more h span l f n (as_source j d p) q g.0.live) ∙ is ∙ ap (λ (y : List Node). y ++ rest) (part_more n m (omega arith))) in
        let here : node_at xs n ≡ node_of (as_source j d p) = sym two.0 in
        let at_last = source_last n j d p here in
        let at_owed = source_owed n j d p here in
        let beneath : Fits h xs (suc n) n n (source_under n p (source_of (h d))) =
        subst (λ (y : List Wait). Fits h xs (suc n) n n y) (append-nil (source_under n p (source_of (h d))))
        (fits_children h xs n p (source_of (h d)) empty (source_src n j d p here) (source_place n j d p here) (error_source_lives h span l (Host d) g.0.live) tt (inr refl)) in
        let all : Fits h xs (suc n) j (suc j) (q ++ source_under n p (source_of (h d))) = fits_append h xs n j (suc j) q (source_under n p (source_of (h d))) (omega arith) b g.1 beneath in
        passed_more n m rest (source_step j d p here g.0)
        (pass m (suc n) f (q ++ children_of h n (as_source j d p)) rest (omega arith) (omega arith) (omega arith) (nodes_more h span l f n (as_source j d p) q g.0.live e)
        (subst (λ (x : ℕ). Fits h xs (suc n) x (owed_from xs (suc n)) (q ++ source_under n p (source_of (h d)))) (sym at_last)
        (subst (λ (x : ℕ). Fits h xs (suc n) j x (q ++ source_under n p (source_of (h d)))) (sym at_owed) all))
        two.1)
    pass (suc m) n (suc f) (as_frame j u p k ∷ q) rest fit last low e g is =
        let b = g.0.below in
        let two = heads _ _ _ _ (sym (listing_more h span l f n (as_frame j u p k) q g.0.live) ∙ is ∙ ap (λ (y : List Node). y ++ rest) (part_more n m (omega arith))) in
        let here : node_at xs n ≡ node_of (as_frame j u p empty) = sym two.0 in
        let at_last = frame_last n j u p here in
        let at_owed = frame_owed n j u p here in
        let below : List Wait = source_under n p (error_source h u) ++ frames_under n k in
        let beneath : Fits h xs (suc n) n n below =
        fits_children h xs n p (error_source h u) k (frame_src n j u p here) (frame_place n j u p here) (error_source_lives h span l u g.0.live) g.1 (inl (frame_native n j u p here)) in
        let all : Fits h xs (suc n) j (owed_from xs n) (q ++ below) = fits_append h xs n j (owed_from xs n) q below (omega arith) low g.2 beneath in
        passed_more n m rest (frame_step j u p here g.0)
        (pass m (suc n) f (q ++ children_of h n (as_frame j u p k)) rest (omega arith) (omega arith) (omega arith) (nodes_more h span l f n (as_frame j u p k) q g.0.live e)
        (subst (λ (x : ℕ). Fits h xs (suc n) x (owed_from xs (suc n)) (q ++ below)) (sym at_last)
        (subst (λ (x : ℕ). Fits h xs (suc n) j x (q ++ below)) (sym at_owed) all))
        two.1)
