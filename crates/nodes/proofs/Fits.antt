-- Which queues fit a list up to an index: those from which the list may go on.
use Rattle.std.proofs.Common.{◌≡◌, ℕ, zero, suc, ◌+◌, ◌<◌, ◌≤◌, true, false, ◌⊎◌, List, [], ◌∷◌, ◌++◌, Some, None, Option, sym, refl, ap, ◌∙◌, subst, ap₂, inl, inr, ⊎_elim, arith}
use Rattle.std.proofs.lemmas.Bool.{cases_eq, cases_lt, true≢false}
use Rattle.vocabulary.specs.declared.frame_error.FrameError.{FrameError}
use Rattle.model.specs.Host.{Errors, Live}
use Rattle.model.specs.Sources.{LiveOrNone}
use Rattle.trees.specs.Trees.{Forest, empty, tree}
use Rattle.nodes.specs.declared.node.Node.{Node}
use Rattle.nodes.specs.Nodes.{LiveError, LiveForest}
use Rattle.nodes.specs.Check.{node_at, error_source, Sourceless}
use Rattle.nodes.proofs.Waiting.{Wait, as_source, as_frame, frames_under, source_under}

-- a source may wait at `n` beneath the node `j`, where the sources of the nodes before `c` are listed or wait before it
pub record SourceWaits (h : Errors) (xs : List Node) (n c j d p : ℕ) : Type 0 where
  pub from : c ≤ j
  pub below : j < n
  pub before : Sourceless h xs c j
  pub source : error_source h (node_at xs j).error ≡ Some d
  pub place : (node_at xs j).place ≡ p
  pub live : Live h d

-- a frame may wait at `n` beneath the frame `j`, where the one before it has the parent `lo`
pub record FrameWaits (h : Errors) (xs : List Node) (n lo c j : ℕ) (e : FrameError) : Type 0 where
  pub from : lo ≤ j
  pub below : j < n
  pub before : Sourceless h xs c (suc j)
  pub frame : (node_at xs j).native ≡ false
  pub live : LiveError h e

module _ (h : Errors) (xs : List Node) where
  -- a queue fits the first `n` nodes of the list, where the latest has the parent `lo` and the sources of the nodes
  -- before `c` are listed
  abbrev pub Fits : ℕ → ℕ → ℕ → List Wait → Type 0
  Fits n lo c [] = Sourceless h xs c n
  Fits n lo c (as_source j d p ∷ q) = SourceWaits h xs n c j d p × Fits n j (suc j) q
  Fits n lo c (as_frame j e p k ∷ q) = FrameWaits h xs n lo c j e × LiveForest h k × Fits n j c q

  -- what waits at one index, at another
  source_at : (n m c j d p : ℕ) → j < m → SourceWaits h xs n c j d p → SourceWaits h xs m c j d p
  source_at n m c j d p b w = record { from = w.from; below = b; before = w.before; source = w.source; place = w.place; live = w.live }

  frame_at : (n m lo c j : ℕ) (e : FrameError) → j < m → FrameWaits h xs n lo c j e → FrameWaits h xs m lo c j e
  frame_at n m lo c j e b w = record { from = w.from; below = b; before = w.before; frame = w.frame; live = w.live }

  -- the source of the node at an index
  abbrev pub src : ℕ → Option ℕ
  src k = error_source h (node_at xs k).error

  -- two ranges with no source are one
  pub sourceless_join : (c d e : ℕ) → Sourceless h xs c d → Sourceless h xs d e → Sourceless h xs c e
  sourceless_join c d e a b k x y = ⊎_elim (λ z. a k x z) (λ z. b k z y) (cases_lt k d)

  -- a part of such a range has none
  pub sourceless_less : (c d e : ℕ) → d ≤ e → Sourceless h xs c e → Sourceless h xs c d
  sourceless_less c d e z a k x y = a k x (omega arith)

  -- there is a source, and there is none
  pub sourced : (k d : ℕ) → src k ≡ Some d → src k ≡ None → ⊥
  sourced k d a b = cc

  -- the end of a queue: frames beneath `n` alone
  record Tail (n : ℕ) (q : List Wait) : Type 0 where
    row : Forest
    is : q ≡ frames_under n row
    live : LiveForest h row
    bare : (node_at xs n).native ≡ true → row ≡ empty

  tail : (n c : ℕ) (q : List Wait) → Sourceless h xs c (suc n) → Fits (suc n) n c q → Tail n q
  tail n c [] s f = record { row = empty; is = refl; live = tt; bare = λ _. refl }
  tail n c (as_source j d p ∷ q) s f = absurd (sourced j d f.0.source (s j f.0.from f.0.below))
  tail n c (as_frame j e p k ∷ q) s f =
      let a = f.0.from in
      let b = f.0.below in
      let same : j ≡ n = omega arith in
      let t = tail n c q s (subst (λ (x : ℕ). Fits (suc n) x c q) same f.2) in
      let frame : (node_at xs n).native ≡ false = subst (λ (x : ℕ). (node_at xs x).native ≡ false) same f.0.frame in
      record {
        row = tree e p k t.row;
        is = ap₂ (λ (x : ℕ) (y : List Wait). as_frame x e p k ∷ y) same t.is;
        live = (f.0.live, f.1, t.live);
        bare = λ u. absurd (true≢false (sym u ∙ frame));
      }

  -- what a queue that fits one node more has, besides one that fits before: the children of that node
  pub record Split (n lo c : ℕ) (q : List Wait) : Type 0 where
    pub front : List Wait
    pub row : Forest
    pub is : q ≡ front ++ (source_under n (node_at xs n).place (src n) ++ frames_under n row)
    pub fits : Fits n lo c front
    pub live : LiveForest h row
    pub bare : (node_at xs n).native ≡ true → row ≡ empty

  -- the queue holds but frames beneath `n`, which has no source
  split_frames : (n lo c : ℕ) (q : List Wait) → Sourceless h xs c (suc n) → c ≤ n → Tail n q → Split n lo c q
  split_frames n lo c q s le t = record {
    front = [];
    row = t.row;
    is = t.is ∙ ap (λ (o : Option ℕ). source_under n (node_at xs n).place o ++ frames_under n t.row) (sym (s n le (omega arith)));
    fits = sourceless_less c n (suc n) (omega arith) s;
    live = t.live;
    bare = t.bare;
  }

  -- a queue that fits one node more is split so
  pub split : (n lo c : ℕ) (q : List Wait) → c ≤ n → Fits (suc n) lo c q → Split n lo c q
  split n lo c [] le f = split_frames n lo c [] f le (record { row = empty; is = refl; live = tt; bare = λ _. refl })
  split n lo c (as_source j d p ∷ q) le f = ⊎_elim here (λ differ. there differ (split n j (suc j) q (let b = f.0.below in omega arith) f.1)) (cases_eq j n)
    where
      here : j ≡ n → Split n lo c (as_source j d p ∷ q)
      here same =
          let t = tail n (suc n) q (λ k a b. absurd (omega arith)) (subst (λ (x : ℕ). Fits (suc n) x (suc x) q) same f.1) in
          record {
            front = [];
            row = t.row;
            is = ap₂ (λ (x : ℕ) (y : List Wait). as_source x d p ∷ y) same t.is
                ∙ ap (λ (x : ℕ). as_source n d x ∷ frames_under n t.row) (sym f.0.place ∙ ap (λ (x : ℕ). (node_at xs x).place) same)
                ∙ ap (λ (o : Option ℕ). source_under n (node_at xs n).place o ++ frames_under n t.row) (sym f.0.source ∙ ap src same);
            fits = subst (λ (x : ℕ). Sourceless h xs c x) same f.0.before;
            live = t.live;
            bare = t.bare;
          }

      there : (j ≡ n → ⊥) → Split n j (suc j) q → Split n lo c (as_source j d p ∷ q)
      there differ t =
          let b = f.0.below in
          record {
            front = as_source j d p ∷ t.front;
            row = t.row;
            is = ap (λ (y : List Wait). as_source j d p ∷ y) t.is;
            fits = (source_at (suc n) n c j _ _ (omega arith) f.0, t.fits);
            live = t.live;
            bare = t.bare;
          }
  split n lo c (as_frame j e p k ∷ q) le f = ⊎_elim here (λ differ. there differ (split n j c q le f.2)) (cases_eq j n)
    where
      here : j ≡ n → Split n lo c (as_frame j e p k ∷ q)
      here same =
          let s : Sourceless h xs c (suc n) = subst (λ (x : ℕ). Sourceless h xs c (suc x)) same f.0.before in
          let waits = f.0 in
          let w : FrameWaits h xs (suc n) n c j e = record { from = omega arith; below = waits.below; before = waits.before; frame = waits.frame; live = waits.live } in
          split_frames n lo c (as_frame j e p k ∷ q) s le (tail n c (as_frame j e p k ∷ q) s (w, f.1, f.2))

      there : (j ≡ n → ⊥) → Split n j c q → Split n lo c (as_frame j e p k ∷ q)
      there differ t =
          let b = f.0.below in
          record {
            front = as_frame j e p k ∷ t.front;
            row = t.row;
            is = ap (λ (y : List Wait). as_frame j e p k ∷ y) t.is;
            fits = (frame_at (suc n) n _ c j _ (omega arith) f.0, f.1, t.fits);
            live = t.live;
            bare = t.bare;
          }

  -- nothing waits before the first node
  pub nothing_first : (lo c : ℕ) (q : List Wait) → Fits 0 lo c q → q ≡ []
  nothing_first lo c [] f = refl
  nothing_first lo c (as_source j d p ∷ q) f = let b = f.0.below in absurd (omega arith)
  nothing_first lo c (as_frame j e p k ∷ q) f = let b = f.0.below in absurd (omega arith)

  -- the other way: the children of a node fit behind a queue
  fits_frames : (n c : ℕ) (k : Forest) → (node_at xs n).native ≡ false → Sourceless h xs c (suc n) → LiveForest h k → Fits (suc n) n c (frames_under n k)
  fits_frames n c empty frame s v = s
  fits_frames n c (tree e p k r) frame s v =
      (record { from = omega arith; below = omega arith; before = s; frame = frame; live = v.0 }, v.1, fits_frames n c r frame s v.2)

  fits_row : (n c : ℕ) (k : Forest) → ((node_at xs n).native ≡ false) ⊎ (k ≡ empty) → Sourceless h xs c (suc n) → LiveForest h k → Fits (suc n) n c (frames_under n k)
  fits_row n c k (inl frame) s v = fits_frames n c k frame s v
  fits_row n c k (inr is) s v = subst (λ (y : Forest). Fits (suc n) n c (frames_under n y)) (sym is) s

  -- the children of a node fit by themselves
  pub fits_children : (n p : ℕ) (o : Option ℕ) (k : Forest) → src n ≡ o → (node_at xs n).place ≡ p → LiveOrNone h o → LiveForest h k
      → ((node_at xs n).native ≡ false) ⊎ (k ≡ empty) → Fits (suc n) n n (source_under n p o ++ frames_under n k)
  fits_children n p None k s q v w z =
      fits_row n n k z (λ i a b. let same : i ≡ n = omega arith in ap src same ∙ s) w
  fits_children n p (Some d) k s q v w z = (
    record { from = omega arith; below = omega arith; before = λ i a b. absurd (omega arith); source = s; place = q; live = v },
    fits_row n (suc n) k z (λ i a b. absurd (omega arith)) w,
  )

  -- a queue also fits from an earlier parent and an earlier node, where no source is owed in between
  pub fits_lower : (n m lo c d : ℕ) (q : List Wait) → lo ≤ m → c ≤ d → Sourceless h xs c d → Fits n m d q → Fits n lo c q
  fits_lower n m lo c d [] a le s f = sourceless_join c d n s f
  fits_lower n m lo c d (as_source j u p ∷ q) a le s f =
      let b = f.0.from in
      (record { from = omega arith; below = f.0.below; before = sourceless_join c d j s f.0.before; source = f.0.source; place = f.0.place; live = f.0.live }, f.1)
  fits_lower n m lo c d (as_frame j e p k ∷ q) a le s f =
      let b = f.0.from in (
        record { from = omega arith; below = f.0.below; before = sourceless_join c d (suc j) s f.0.before; frame = f.0.frame; live = f.0.live },
        f.1,
        fits_lower n j j c d q (omega arith) le s f.2,
      )

  -- and behind a queue that fits
  pub fits_append : (n lo c : ℕ) (q z : List Wait) → lo ≤ n → c ≤ n → Fits n lo c q → Fits (suc n) n n z → Fits (suc n) lo c (q ++ z)
  fits_append n lo c [] z a le f g = fits_lower (suc n) n lo c n z a le f g
  fits_append n lo c (as_source j d p ∷ q) z a le f g =
      let b = f.0.below in (
        source_at n (suc n) c j _ _ (omega arith) f.0,
        fits_append n j (suc j) q z (omega arith) (omega arith) f.1 g,
      )
  fits_append n lo c (as_frame j e p k ∷ q) z a le f g =
      let b = f.0.below in (
        frame_at n (suc n) _ c j _ (omega arith) f.0,
        f.1,
        fits_append n j c q z (omega arith) le f.2 g,
      )

  -- the sources that are owed fit as a queue
  pub owes : (m n lo c : ℕ) → c + m ≡ n → ((k : ℕ) → k < n → LiveOrNone h (src k)) → (q : List Wait) × Fits n lo c q
  owes zero n lo c e v = ([], λ k a b. absurd (omega arith))
  owes (suc m) n lo c e v = go (src c) refl (v c (omega arith)) (λ x. owes m n x (suc c) (omega arith) v)
    where
      go : (o : Option ℕ) → src c ≡ o → LiveOrNone h o → ((x : ℕ) → (q : List Wait) × Fits n x (suc c) q) → (q : List Wait) × Fits n lo c q
      go None is u more = let r = more lo in (r.0, fits_lower n lo lo c (suc c) r.0 (omega arith) (omega arith) (λ k a b. let same : k ≡ c = omega arith in ap src same ∙ is) r.1)
      go (Some d) is u more =
          let r = more c in (
            as_source c d (node_at xs c).place ∷ r.0,
            (record { from = omega arith; below = omega arith; before = λ k a b. absurd (omega arith); source = is; place = refl; live = u }, r.1),
          )
