-- The fold gives the cause, and there is only one cause.
use Rattle.std.proofs.Common.{◌≡◌, Bool, true, false, ◌⊎◌, sym, refl, ap, ◌∙◌, inl, inr, ⊎_elim}
use Rattle.std.proofs.lemmas.Bool.{true≢false}
use Rattle.nodes.specs.Rows.{Rows, none, node}
use Rattle.readings.specs.Seen.{Seen, nothing, single, several, ◌or◌, ◌with◌, node_seen, seen}
use Rattle.readings.specs.Positions.{Position, here, down, next, at, Over, Comparable, Deepest, NoneComparable}

-- a position above another and beneath it is the same
pub over_both : {A : Type 0} (r : Rows A) (x y : Position r) → Over r x y → Over r y x → x ≡ y
over_both none x y a b = elim x [ ]
over_both (node v c r) here here a b = refl
over_both (node v c r) here (down y) a b = absurd b
over_both (node v c r) here (next y) a b = absurd a
over_both (node v c r) (down x) here a b = absurd a
over_both (node v c r) (down x) (down y) a b = ap down (over_both c x y a b)
over_both (node v c r) (down x) (next y) a b = absurd a
over_both (node v c r) (next x) here a b = absurd a
over_both (node v c r) (next x) (down y) a b = absurd a
over_both (node v c r) (next x) (next y) a b = ap next (over_both r x y a b)

module _ {A E : Type 0} (marks : A → Bool) (error : A → E) where
  -- what is seen of a row says this of its nodes
  abbrev pub Says : Rows A → Seen E → Type 0
  Says r nothing = (y : Position r) → marks (at r y) ≡ true
  Says r (single e) = Deepest marks error r e
  Says r several = ((y : Position r) × (marks (at r y) ≡ false)) × NoneComparable marks r

  -- some node is no marker
  abbrev Unmarked : Rows A → Type 0
  Unmarked r = (y : Position r) × (marks (at r y) ≡ false)

  unmarked_single : (r : Rows A) (e : E) → Deepest marks error r e → Unmarked r
  unmarked_single r e d = (d.position, d.comparable.0)

  -- comparable in a whole row, and so among the children, or among the nodes after the first
  inner : (v : A) (c r : Rows A) (y : Position c) → Comparable marks (node v c r) (down y) → Comparable marks c y
  inner v c r y h = (h.0, λ z m. h.1 (down z) m)

  after : (v : A) (c r : Rows A) (y : Position r) → Comparable marks (node v c r) (next y) → Comparable marks r y
  after v c r y h = (h.0, λ z m. h.1 (next z) m)

  module _ (v : A) (c r : Rows A) where
    -- beneath a marker
    module _ (q : marks v ≡ true) where
      -- with nodes that are no markers on both sides none is comparable
      split : Unmarked c → Unmarked r → Says (node v c r) several
      split a b = ((down a.0, a.1), no_one)
        where
          no_one : (y : Position (node v c r)) → Comparable marks (node v c r) y → ⊥
          no_one here h = true≢false (sym q ∙ h.0)
          no_one (down y) h = ⊎_elim (λ x. x) (λ x. x) (h.1 (next b.0) b.1)
          no_one (next y) h = ⊎_elim (λ x. x) (λ x. x) (h.1 (down a.0) a.1)

      only_after : (e : E) → Says c nothing → Deepest marks error r e → Deepest marks error (node v c r) e
      only_after e a b = record { position = next b.position; comparable = (b.comparable.0, sees); deepest = deep; error_is = b.error_is }
        where
          sees : (y : Position (node v c r)) → marks (at (node v c r) y) ≡ false → Over (node v c r) (next b.position) y ⊎ Over (node v c r) y (next b.position)
          sees here m = absurd (true≢false (sym q ∙ m))
          sees (down y) m = absurd (true≢false (sym (a y) ∙ m))
          sees (next y) m = b.comparable.1 y m

          deep : (y : Position (node v c r)) → Comparable marks (node v c r) y → Over (node v c r) y (next b.position)
          deep here h = absurd (true≢false (sym q ∙ h.0))
          deep (down y) h = absurd (true≢false (sym (a y) ∙ h.0))
          deep (next y) h = b.deepest y (after v c r y h)

      only_inner : (e : E) → Deepest marks error c e → Says r nothing → Deepest marks error (node v c r) e
      only_inner e a b = record { position = down a.position; comparable = (a.comparable.0, sees); deepest = deep; error_is = a.error_is }
        where
          sees : (y : Position (node v c r)) → marks (at (node v c r) y) ≡ false → Over (node v c r) (down a.position) y ⊎ Over (node v c r) y (down a.position)
          sees here m = absurd (true≢false (sym q ∙ m))
          sees (down y) m = a.comparable.1 y m
          sees (next y) m = absurd (true≢false (sym (b y) ∙ m))

          deep : (y : Position (node v c r)) → Comparable marks (node v c r) y → Over (node v c r) y (down a.position)
          deep here h = absurd (true≢false (sym q ∙ h.0))
          deep (down y) h = a.deepest y (inner v c r y h)
          deep (next y) h = absurd (true≢false (sym (b y) ∙ h.0))

      marked : (s t : Seen E) → Says c s → Says r t → Says (node v c r) (s with t)
      marked nothing nothing a b = all
        where
          all : (y : Position (node v c r)) → marks (at (node v c r) y) ≡ true
          all here = q
          all (down y) = a y
          all (next y) = b y
      marked nothing (single e) a b = only_after e a b
      marked nothing several a b = ((next b.0.0, b.0.1), no_one)
        where
          no_one : (y : Position (node v c r)) → Comparable marks (node v c r) y → ⊥
          no_one here h = true≢false (sym q ∙ h.0)
          no_one (down y) h = true≢false (sym (a y) ∙ h.0)
          no_one (next y) h = b.1 y (after v c r y h)
      marked (single e) nothing a b = only_inner e a b
      marked (single e) (single d) a b = split (unmarked_single c e a) (unmarked_single r d b)
      marked (single e) several a b = split (unmarked_single c e a) b.0
      marked several nothing a b = ((down a.0.0, a.0.1), no_one)
        where
          no_one : (y : Position (node v c r)) → Comparable marks (node v c r) y → ⊥
          no_one here h = true≢false (sym q ∙ h.0)
          no_one (down y) h = a.1 y (inner v c r y h)
          no_one (next y) h = true≢false (sym (b y) ∙ h.0)
      marked several (single d) a b = split a.0 (unmarked_single r d b)
      marked several several a b = split a.0 b.0

    -- beneath a node that is no marker
    module _ (q : marks v ≡ false) where
      -- with a node that is no marker after it none is comparable
      beside : Unmarked r → Says (node v c r) several
      beside b = ((here, q), no_one)
        where
          no_one : (y : Position (node v c r)) → Comparable marks (node v c r) y → ⊥
          no_one here h = ⊎_elim (λ x. x) (λ x. x) (h.1 (next b.0) b.1)
          no_one (down y) h = ⊎_elim (λ x. x) (λ x. x) (h.1 (next b.0) b.1)
          no_one (next y) h = ⊎_elim (λ x. x) (λ x. x) (h.1 here q)

      -- it is the cause where no node beneath it is comparable
      itself : ((y : Position c) → Comparable marks (node v c r) (down y) → ⊥) → Says r nothing → Deepest marks error (node v c r) (error v)
      itself a b = record { position = here; comparable = (q, sees); deepest = deep; error_is = refl }
        where
          sees : (y : Position (node v c r)) → marks (at (node v c r) y) ≡ false → Over (node v c r) here y ⊎ Over (node v c r) y here
          sees here m = inl tt
          sees (down y) m = inl tt
          sees (next y) m = absurd (true≢false (sym (b y) ∙ m))

          deep : (y : Position (node v c r)) → Comparable marks (node v c r) y → Over (node v c r) y here
          deep here h = tt
          deep (down y) h = absurd (a y h)
          deep (next y) h = absurd (true≢false (sym (b y) ∙ h.0))

      beneath : (e : E) → Deepest marks error c e → Says r nothing → Deepest marks error (node v c r) e
      beneath e a b = record { position = down a.position; comparable = (a.comparable.0, sees); deepest = deep; error_is = a.error_is }
        where
          sees : (y : Position (node v c r)) → marks (at (node v c r) y) ≡ false → Over (node v c r) (down a.position) y ⊎ Over (node v c r) y (down a.position)
          sees here m = inr tt
          sees (down y) m = a.comparable.1 y m
          sees (next y) m = absurd (true≢false (sym (b y) ∙ m))

          deep : (y : Position (node v c r)) → Comparable marks (node v c r) y → Over (node v c r) y (down a.position)
          deep here h = tt
          deep (down y) h = a.deepest y (inner v c r y h)
          deep (next y) h = absurd (true≢false (sym (b y) ∙ h.0))

      alone : (s : Seen E) → Says c s → Says r nothing → Deepest marks error (node v c r) (s or error v)
      alone nothing a b = itself (λ y h. true≢false (sym (a y) ∙ h.0)) b
      alone (single e) a b = beneath e a b
      alone several a b = itself (λ y h. a.1 y (inner v c r y h)) b

      unmarked : (s t : Seen E) → Says c s → Says r t → Says (node v c r) (single (s or error v) with t)
      unmarked s nothing a b = alone s a b
      unmarked s (single d) a b = beside (unmarked_single r d b)
      unmarked s several a b = beside b.0

    -- one node, whatever it is
    one : (b : Bool) → marks v ≡ b → (s t : Seen E) → Says c s → Says r t → Says (node v c r) (node_seen b (error v) s with t)
    one true q s t x y = marked q s t x y
    one false q s t x y = unmarked q s t x y

  -- what the fold gives says so
  pub seen_says : (r : Rows A) → Says r (seen marks error r)
  seen_says none = all
    where
      all : (y : Position {A = A} none) → marks (at none y) ≡ true
      all y = elim y [ ]
  seen_says (node v c r) = one v c r (marks v) refl (seen marks error c) (seen marks error r) (seen_says c) (seen_says r)

  -- the cause or the other error, as what is seen says
  pub caused : (r : Rows A) (e : E) (s : Seen E) → Says r s → Deepest marks error r (s or e) ⊎ (NoneComparable marks r × (s or e ≡ e))
  caused r e nothing a = inr (λ y h. true≢false (sym (a y) ∙ h.0), refl)
  caused r e (single d) a = inl a
  caused r e several a = inr (a.1, refl)

  -- no two errors are the cause
  pub one-cause : (r : Rows A) (d e : E) → Deepest marks error r d → Deepest marks error r e → d ≡ e
  one-cause r d e a b =
      sym a.error_is
      ∙ ap (λ (x : Position r). error (at r x)) (over_both r a.position b.position (b.deepest a.position a.comparable) (a.deepest b.position b.comparable))
      ∙ b.error_is
