-- The state of the check: what the tests of its code say, step by step, and what its end says.
use Rattle.std.proofs.Common.{◌≡◌, ℕ, zero, suc, ◌+◌, ◌<◌, ◌≤◌, true, false, ◌⊎◌, List, length, take, is_some, Some, None, sym, refl, ap, ◌∙◌, subst, inl, inr, ⊎_elim, add-one, arith}
use Rattle.std.proofs.lemmas.Bool.{cases_eq, cases_lt, cases_order, cond-true, cond-false, true≢false}
use Rattle.model.specs.Host.{Errors, Lawful}
use Rattle.nodes.specs.declared.node.Node.{Node}
use Rattle.nodes.specs.Rows.{count}
use Rattle.nodes.specs.Nodes.{nodes_of, LiveError}
use Rattle.nodes.specs.Begins.{Flat, Begins, FirstBad}
use Rattle.nodes.specs.Check.{node_at, Sourceless, NextSource, Root, SourceFits, FrameFits, NodeFits}
use Rattle.nodes.proofs.Rebuild.{flattening-length}
use Rattle.nodes.proofs.Fits.{src, sourceless_join, sourceless_less, sourced}
use Rattle.nodes.proofs.Steps.{index, last_parent, owed_from, Step, source_step, frame_step}
use Rattle.nodes.proofs.Check.{Accepted, accepted_begins, accepted_flat, begins_root, begins_step, flat_owes}

module _ (h : Errors) (xs : List Node) where
  -- there is a source where a test says so
  source_there : (k : ℕ) → is_some (src h xs k) ≡ true → src h xs k ≡ None → ⊥
  source_there k a b = true≢false (sym a ∙ ap is_some b)

  module _ (i last owing : ℕ) (is_last : last ≡ last_parent xs i) (next : NextSource h xs (owed_from xs i) i owing) where
    -- the node that owes its source is the only one at which the next source can stand
    owing_only : (j d : ℕ) → owed_from xs i ≤ j → j < i → Sourceless h xs (owed_from xs i) j → src h xs j ≡ Some d → j ≡ owing
    owing_only j d a b s e = ⊎_elim (λ same. same) (λ differ. ⊎_elim earlier later differ) (cases_order j owing)
      where
        earlier : j < owing → j ≡ owing
        earlier x = absurd (sourced h xs j d e (next.before j a x))

        later : owing < j → j ≡ owing
        later x = absurd (source_there owing (next.here (omega arith)) (s owing next.low x))

    -- a test that was passed
    fits_step : NodeFits h xs i last owing → Step h xs i
    fits_step f = ⊎_elim by_source by_frame f.placed
      where
        by_source : SourceFits h xs i owing (node_at xs i) → Step h xs i
        by_source s =
            source_step owing s.source.0 (node_at xs owing).place
            (λ t. record { error = s.source.2 t; place = s.place t; native = s.native t; parent = s.parent t; note = f.clear t })
            (record {
              from = next.low;
              below = s.before;
              before = next.before;
              source = s.source.1;
              place = refl;
              live = subst (LiveError h) s.source.2 f.live;
            })

        by_frame : FrameFits xs last owing (node_at xs i) → Step h xs i
        by_frame s =
            let low = s.parent.2 in
            let high = s.parent.3 in
            let top = next.high in
            frame_step s.parent.0 (node_at xs i).error (node_at xs i).place
            (λ t. record { error = (node_at xs i).error; place = (node_at xs i).place; native = s.native t; parent = s.parent.1 t; note = f.clear t })
            (record {
              from = omega arith;
              below = omega arith;
              before = sourceless_less h xs (owed_from xs i) (suc s.parent.0) owing high next.before;
              frame = s.parent.4;
              live = f.live;
            })

    -- a test that fits the node
    step_fits : Step h xs i → NodeFits h xs i last owing
    step_fits (source_step j d p is w) =
        let same : j ≡ owing = owing_only j d w.from w.below w.before w.source in
        record {
          clear = ap (λ (x : Node). x.note) is;
          live = subst (λ (x : Node). LiveError h x.error) (sym is) w.live;
          placed = inl (record {
            native = ap (λ (x : Node). x.native) is;
            parent = ap (λ (x : Node). x.parent) is ∙ ap Some same;
            before = subst (λ (x : ℕ). x < i) same w.below;
            source = (d, ap (src h xs) (sym same) ∙ w.source, ap (λ (x : Node). x.error) is);
            place = ap (λ (x : Node). x.place) is ∙ sym w.place ∙ ap (λ (x : ℕ). (node_at xs x).place) same;
          });
        }
    step_fits (frame_step j e p is w) =
        record {
          clear = ap (λ (x : Node). x.note) is;
          live = subst (λ (x : Node). LiveError h x.error) (sym is) w.live;
          placed = inr (record {
            native = ap (λ (x : Node). x.native) is;
            parent = (j, ap (λ (x : Node). x.parent) is, (let a = w.from in omega arith), ⊎_elim (λ x. x) late (cases_lt j owing), w.frame);
          });
        }
      where
        late : owing ≤ j → j < owing
        late x = let b = w.below in absurd (source_there owing (next.here (omega arith)) (w.before owing next.low (omega arith)))

  module _ (span : ℕ) (l : Lawful h span) where
    -- where the check stands: the first `i` nodes passed, the latest has the parent `last`, and `owing` is the first of
    -- them whose source is not listed, or `i`
    pub record Checking (i last owing : ℕ) : Type 0 where
      pub accepted : Accepted h span l xs i
      pub is_last : last ≡ last_parent xs i
      pub next : NextSource h xs (owed_from xs i) i owing

    -- the check begins after the root
    pub checking_first : (owing : ℕ) → 0 < length xs → Root h (node_at xs 0) → NextSource h xs 0 1 owing → Checking 1 0 owing
    checking_first owing fit r n = record {
      accepted = record { some = omega arith; within = fit; root = r; steps = λ k a b. absurd (omega arith) };
      is_last = sym (ap index r.orphan);
      next = subst (λ (c : ℕ). NextSource h xs c 1 owing) (sym (cond-false (node_at xs 0).native (suc (index (node_at xs 0).parent)) 0 r.frame)) n;
    }

    -- the next node passed
    accepted_more : (i last owing : ℕ) → Checking i last owing → i < length xs → NodeFits h xs i last owing → Accepted h span l xs (suc i)
    accepted_more i last owing c fit f =
        record {
          some = omega arith;
          within = fit;
          root = c.accepted.root;
          steps = λ k a b. ⊎_elim (λ same. subst (Step h xs) (sym same) (fits_step i last owing c.is_last c.next f)) (λ differ. c.accepted.steps k a (omega arith)) (cases_eq k i);
        }

    -- the search for the next source begins behind the parent of a source, and else where it stopped
    abbrev pub From : ℕ → ℕ → ℕ → Type 0
    From i owing from = (((node_at xs i).native ≡ true) × (from ≡ owing + 1)) ⊎ (((node_at xs i).native ≡ false) × (from ≡ owing))

    -- the first source that is owed after a node that passed
    next_more : (i last owing from next : ℕ) → Checking i last owing → NodeFits h xs i last owing → From i owing from
        → NextSource h xs from (suc i) next → NextSource h xs (owed_from xs (suc i)) (suc i) next
    next_more i last owing from next c f (inl t) n =
        let at_owing : index (node_at xs i).parent ≡ owing = ⊎_elim (λ s. ap index s.parent) (λ s. absurd (true≢false (sym t.0 ∙ s.native))) f.placed in
        let owed : owed_from xs (suc i) ≡ suc owing = cond-true (node_at xs i).native (suc (index (node_at xs i).parent)) (owed_from xs i) t.0 ∙ ap suc at_owing in
        subst (λ (x : ℕ). NextSource h xs x (suc i) next) (t.1 ∙ add-one owing ∙ sym owed) n
    next_more i last owing from next c f (inr t) n =
        let owed : owed_from xs (suc i) ≡ owed_from xs i = cond-false (node_at xs i).native (suc (index (node_at xs i).parent)) (owed_from xs i) t.0 in
        let m : NextSource h xs owing (suc i) next = subst (λ (x : ℕ). NextSource h xs x (suc i) next) t.1 n in
        let low = c.next.low in
        let up = m.low in
        subst (λ (x : ℕ). NextSource h xs x (suc i) next) (sym owed)
        (record { low = omega arith; high = m.high; before = sourceless_join h xs (owed_from xs i) owing next c.next.before m.before; here = m.here })

    -- so the check goes on after a node that passed
    pub checking_more : (i last owing from after next : ℕ) → Checking i last owing → i < length xs → NodeFits h xs i last owing → From i owing from
        → after ≡ index (node_at xs i).parent → NextSource h xs from (i + 1) next → Checking (i + 1) after next
    checking_more i last owing from after next c fit f t p n =
        subst (λ (x : ℕ). Checking x after next) (sym (add-one i))
        (record {
          accepted = accepted_more i last owing c fit f;
          is_last = p;
          next = next_more i last owing from next c f t (subst (λ (x : ℕ). NextSource h xs from x next) (add-one i) n);
        })

    -- the nodes before the one that is looked at begin a flattening
    before_begin : (i : ℕ) → Accepted h span l xs i → (j : ℕ) → j < i → Begins h (take (j + 1) xs)
    before_begin i a j b =
        let w = a.within in
        accepted_begins h span l xs (j + 1) (record { some = omega arith; within = omega arith; root = a.root; steps = λ k x y. a.steps k x (omega arith) })

    -- an empty list is no flattening
    pub bad_empty : length xs ≡ 0 → FirstBad h xs 0
    bad_empty e = record {
      within = omega arith;
      before = λ j b. absurd (omega arith);
      here = λ b _. omega arith;
      ends = λ _ x. let a = flattening-length h x.0 in let s : length xs ≡ count (nodes_of h x.0) = ap length (sym x.1.lists) ∙ a in omega arith;
    }

    -- nor is one whose first node is no root
    pub bad_root : 0 < length xs → (Root h (node_at xs 0) → ⊥) → FirstBad h xs 0
    bad_root fit n = record {
      within = omega arith;
      before = λ j b. absurd (omega arith);
      here = λ _ b. n (begins_root h span l xs fit b);
      ends = λ e _. omega arith;
    }

    -- a node that does not fit is the first bad one
    pub bad_node : (i last owing : ℕ) → Checking i last owing → i < length xs → (NodeFits h xs i last owing → ⊥) → FirstBad h xs i
    bad_node i last owing c fit n = record {
      within = omega arith;
      before = before_begin i c.accepted;
      here = λ _ b. n (step_fits i last owing c.is_last c.next (begins_step h span l xs i c.accepted.some fit (subst (λ (x : ℕ). Begins h (take x xs)) (add-one i) b)));
      ends = λ e _. omega arith;
    }

    -- at the end, a source is owed
    pub bad_end : (i last owing : ℕ) → Checking i last owing → i ≡ length xs → owing < i → FirstBad h xs i
    bad_end i last owing c e o = record {
      within = omega arith;
      before = before_begin i c.accepted;
      here = λ b _. omega arith;
      ends = λ _ x. go i refl x;
    }
      where
        go : (m : ℕ) → m ≡ i → Flat h xs → ⊥
        go zero z x = omega arith
        go (suc m) z x =
            let s = flat_owes h span l xs m (omega arith) x in
            let t : Sourceless h xs (owed_from xs i) i = subst (λ (n : ℕ). Sourceless h xs (owed_from xs n) n) (sym e) s in
            source_there owing (c.next.here o) (t owing c.next.low o)

    -- or none is, and the list is a flattening
    pub whole : (i last owing : ℕ) → Checking i last owing → i ≡ length xs → owing ≡ i → Flat h xs
    whole i last owing c e o =
        accepted_flat h span l xs (subst (λ (n : ℕ). Accepted h span l xs n) e c.accepted)
        (subst (λ (n : ℕ). Sourceless h xs (owed_from xs n) n) e (subst (λ (n : ℕ). Sourceless h xs (owed_from xs i) n) o c.next.before))

    -- what the check can say where it stands: that the next node is bad, that the list ends too soon, or that it is whole
    pub record Conclusions (i last owing : ℕ) : Type 0 where
      pub checking : Checking i last owing
      pub within : i ≤ length xs
      pub owes : owing ≤ i
      pub refuses : i < length xs → (NodeFits h xs i last owing → ⊥) → FirstBad h xs i
      pub lacks : length xs ≤ i → owing < length xs → FirstBad h xs (length xs)
      pub ends : length xs ≤ i → length xs ≤ owing → Flat h xs

    conclusions : (i last owing : ℕ) → Checking i last owing → Conclusions i last owing
    conclusions i last owing c =
        let w = c.accepted.within in
        let o = c.next.high in
        record {
          checking = c;
          within = w;
          owes = o;
          refuses = bad_node i last owing c;
          lacks = λ a b. let same : i ≡ length xs = omega arith in subst (FirstBad h xs) same (bad_end i last owing c same (omega arith));
          ends = λ a b. whole i last owing c (omega arith) (omega arith);
        }

    -- after the root
    pub conclusions_first : (owing : ℕ) → 0 < length xs → Root h (node_at xs 0) → NextSource h xs 0 1 owing → Conclusions 1 0 owing
    conclusions_first owing fit r n = conclusions 1 0 owing (checking_first owing fit r n)

    -- after each node that passed
    pub conclusions_more : (i last owing from after next : ℕ) → Conclusions i last owing → i < length xs → NodeFits h xs i last owing → From i owing from
        → after ≡ index (node_at xs i).parent → NextSource h xs from (i + 1) next → Conclusions (i + 1) after next
    conclusions_more i last owing from after next c fit f t p n = conclusions (i + 1) after next (checking_more i last owing from after next c.checking fit f t p n)
