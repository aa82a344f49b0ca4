-- Frames side by side, appended one after the other.
use Rattle.std.proofs.Common.{◌≡◌, ℕ, ◌+◌, ◌<◌, List, [], ◌∷◌, ◌++◌, length, get_or, Some, None, Option, sym, refl, ap, ◌∙◌, subst, ap₂, append_assoc, arith}
use native.Mathlib.Bridge.{le_prop}
use Rattle.std.proofs.lemmas.List.{append-nil, length-append}
use Rattle.trees.specs.Numbered.{Numbered, none, node, ◌beside◌, head_of}
use Rattle.layout.specs.declared.frame.Role.TheVariants.{Linked}
use Rattle.layout.specs.declared.frame.Frame.{Frame}
use Rattle.layout.specs.Layout.{blank, Held}
use Rattle.traversal.specs.declared.order.Visit.{Visit}
use Rattle.traversal.specs.Order.{visit_at, width, visits, Room}
use Rattle.traversal.specs.Walk.{Trail}

beside_none : (r : Numbered) → r beside none ≡ r
beside_none none = refl
beside_none (node i e p k r) = ap (λ (x : Numbered). node i e p k x) (beside_none r)

beside_assoc : (r s t : Numbered) → (r beside s) beside t ≡ r beside (s beside t)
beside_assoc none s t = refl
beside_assoc (node i e p k r) s t = ap (λ (x : Numbered). node i e p k x) (beside_assoc r s t)

width_beside : (r s : Numbered) → width (r beside s) ≡ width r + width s
width_beside none s = omega arith
width_beside (node i e p k r) s = let h = width_beside r s in omega arith

visits_beside : (n : ℕ) (r s : Numbered) → visits n (r beside s) ≡ visits n r ++ visits n s
visits_beside n none s = refl
visits_beside n (node i e p k r) s = ap (λ (x : List Visit). record { frame = i; error = e; place = p; parent = Some n } ∷ x) (visits_beside n r s)

pub visits-length : (n : ℕ) (r : Numbered) → length (visits n r) ≡ width r
visits-length n none = refl
visits-length n (node i e p k r) = let h = visits-length n r in omega arith

held_rest : (fs : List Frame) (r s : Numbered) → Held fs Linked (r beside s) → Held fs Linked s
held_rest fs none s h = h
held_rest fs (node i e p k r) s h = held_rest fs r s h.3

-- what is known of the frame that comes next
pub record Ahead (most stop c : ℕ) : Type 0 where
  pub below : c < 1024
  pub room : stop < most

pub ahead_prop : (most stop c : ℕ) → IsProp (Ahead most stop c)
ahead_prop most stop c = hlevel le_prop

module _ (fs : List Frame) (first : Option ℕ) (n : ℕ) (kids : Numbered) (before : List Visit) (most : ℕ) (o : Room fs first (length before) most kids) where
  pub trail_none : Trail before before first n kids
  trail_none = record { done = none; rest = kids; is = refl; next = sym o.begins; list = sym (append-nil before) }

  module _ (now : List Visit) (at : Option ℕ) (t : Trail before now at n kids) where
    pub ahead : (c : ℕ) → at ≡ Some c → Ahead most (length now) c
    ahead c a = go t.rest t.is t.next
      where
        go : (rest : Numbered) → kids ≡ t.done beside rest → at ≡ head_of rest → Ahead most (length now) c
        go none i x = absurd cc
        go (node d e p k r) i x =
            let q : d ≡ c = cc in
            let h : Held fs Linked (node d e p k r) = held_rest fs t.done (node d e p k r) (subst (λ (y : Numbered). Held fs Linked y) i o.held) in
            let w = width_beside t.done (node d e p k r) in
            let v : width kids ≡ width (t.done beside node d e p k r) = ap width i in
            let u : length now ≡ length before + length (visits n t.done) = ap length t.list ∙ length-append before (visits n t.done) in
            let l = visits-length n t.done in
            let g = o.long in
            let m = o.room in
            let hb = h.0 in
            record { below = omega arith; room = omega arith }

    pub trail_more : (c : ℕ) → at ≡ Some c → Trail before (now ++ (visit_at fs c (Some n) ∷ [])) (get_or fs c blank).next n kids
    trail_more c a = go t.rest t.is t.next
      where
        go : (rest : Numbered) → kids ≡ t.done beside rest → at ≡ head_of rest → Trail before (now ++ (visit_at fs c (Some n) ∷ [])) (get_or fs c blank).next n kids
        go none i x = absurd cc
        go (node d e p k r) i x =
            let q : d ≡ c = cc in
            let h : Held fs Linked (node d e p k r) = held_rest fs t.done (node d e p k r) (subst (λ (y : Numbered). Held fs Linked y) i o.held) in
            let y : Visit = record { frame = d; error = e; place = p; parent = Some n } in
            let yv : y ≡ visit_at fs d (Some n) = sym (ap (λ (f : Frame). record { frame = d; error = f.error; place = f.place; parent = Some n }) h.1) in
            subst (λ (z : ℕ). Trail before (now ++ (visit_at fs z (Some n) ∷ [])) (get_or fs z blank).next n kids) q
            (record {
              done = t.done beside node d e p k none;
              rest = r;
              is = i ∙ sym (beside_assoc t.done (node d e p k none) r);
              next = ap (λ (f : Frame). f.next) h.1;
              list = ap₂ (λ (z : List Visit) (v : Visit). z ++ (v ∷ [])) t.list (sym yv) ∙ append_assoc before (visits n t.done) (y ∷ [])
                  ∙ ap (λ (z : List Visit). before ++ z) (sym (visits_beside n t.done (node d e p k none)));
            })

    pub trail_all : at ≡ None → now ≡ before ++ visits n kids
    trail_all a = go t.rest t.is t.next
      where
        go : (rest : Numbered) → kids ≡ t.done beside rest → at ≡ head_of rest → now ≡ before ++ visits n kids
        go none i x = t.list ∙ ap (λ (y : Numbered). before ++ visits n y) (sym (i ∙ beside_none t.done))
        go (node d e p k r) i x = absurd cc
