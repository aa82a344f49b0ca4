-- What a write to the frames leaves of the forests that they hold.
use Rattle.std.proofs.Common.{◌≡◌, ℕ, ◌+◌, ◌<◌, ◌≤◌, ◌≢◌, List, [], ◌∷◌, length, get_or, set, Some, None, Option, sym, refl, ap, ◌∙◌, subst, ⊎_elim, arith}
use Rattle.std.proofs.Math.Nat.{eq-zero-or-pos}
use Rattle.std.proofs.lemmas.Bool.{cases_eq}
use Rattle.std.proofs.lemmas.List.{get_or-set_same, get_or-set_other, length-set}
use Rattle.vocabulary.specs.declared.frame_error.FrameError.{FrameError}
use Rattle.trees.specs.Numbered.{Numbered, none, node, ◌beside◌, tally, head_of, last_from, last_of}
use Rattle.trees.proofs.Numbered.{one_same, one_other, apart, last_in}
use Rattle.layout.specs.declared.frame.Role.{Role}
use Rattle.layout.specs.declared.frame.Role.TheVariants.{Linked}
use Rattle.layout.specs.declared.frame.Frame.{Frame}
use Rattle.layout.specs.Layout.{blank, Held, Block, nodes, role_of, Stand, tallies, with_next, with_role, changed, Within}

-- a number does not count, if there is one
abbrev pub Off : Option ℕ → (ℕ → ℕ) → Type 0
Off None f = Unit {0}
Off (Some i) f = f i ≡ 0

-- a write elsewhere leaves a forest
pub held_set : (fs : List Frame) (s : Role) (r : Numbered) (i : ℕ) (f : Frame) → Held fs s r → tally i r ≡ 0 → Held (set fs i f) s r
held_set fs s none i f h z = tt
held_set fs s (node j e p k r) i f h z =
    let ne : j ≢ i = λ q. apart i j (omega arith) (sym q) in (
      simp length-set h.0,
      get_or-set_other fs i j f blank ne ∙ h.1,
      held_set fs Linked k i f h.2 (omega arith),
      held_set fs Linked r i f h.3 (omega arith),
    )

pub held-changed : (fs : List Frame) (s : Role) (r : Numbered) (o : Option ℕ) (g : Frame → Frame) → Held fs s r → Off o (λ n. tally n r) → Held (changed fs o g) s r
held-changed fs s r None g h z = h
held-changed fs s r (Some i) g h z = held_set fs s r i _ h z

pub stand_set : (fs : List Frame) (bs : List Block) (i : ℕ) (f : Frame) → Stand fs bs → tallies i bs ≡ 0 → Stand (set fs i f) bs
stand_set fs [] i f h z = tt
stand_set fs (b ∷ bs) i f h z = (held_set fs (role_of b) (nodes b) i f h.0 (omega arith), stand_set fs bs i f h.1 (omega arith))

pub stand_changed : (fs : List Frame) (bs : List Block) (o : Option ℕ) (g : Frame → Frame) → Stand fs bs → Off o (λ n. tallies n bs) → Stand (changed fs o g) bs
stand_changed fs bs None g h z = h
stand_changed fs bs (Some i) g h z = stand_set fs bs i _ h z

pub length-changed : (fs : List Frame) (o : Option ℕ) (g : Frame → Frame) → length (changed fs o g) ≡ length fs
length-changed fs None g = refl
length-changed fs (Some i) g = length-set fs i _

pub last_below : (fs : List Frame) (s : Role) (i : ℕ) (e : FrameError) (p : ℕ) (k r : Numbered) → Held fs s (node i e p k r) → last_from i r < length fs
last_below fs s i e p k none h = h.0
last_below fs s i e p k (node j f q l r) h = last_below fs Linked j f q l r h.3

pub within_last : (fs : List Frame) (s : Role) (r : Numbered) → length fs ≡ 1024 → Held fs s r → Within (last_of r)
within_last fs s none l h = tt
within_last fs s (node i e p k r) l h = let a = last_below fs s i e p k r h in omega arith

pub within_head : (fs : List Frame) (s : Role) (r : Numbered) → length fs ≡ 1024 → Held fs s r → Within (head_of r)
within_head fs s none l h = tt
within_head fs s (node i e p k r) l h = let a = h.0 in omega arith

-- the last node of a forest does not count where the forest's numbers do not
pub off_last : (fs : List Frame) (s : Role) (r : Numbered) (f : ℕ → ℕ) → Held fs s r → ((n : ℕ) → n < length fs → tally n r + f n ≤ 1) → Off (last_of r) f
off_last fs s none f h u = tt
off_last fs s (node i e p k r) f h u =
    let a = u (last_from i r) (last_below fs s i e p k r h) in let b = last_in i e p k r in omega arith

pub off_head : (fs : List Frame) (s : Role) (r : Numbered) (f : ℕ → ℕ) → Held fs s r → ((n : ℕ) → n < length fs → tally n r + f n ≤ 1) → Off (head_of r) f
off_head fs s none f h u = tt
off_head fs s (node i e p k r) f h u = let a = u i h.0 in let b = one_same i i refl in omega arith

-- a forest gets a role
pub held_role : (fs : List Frame) (s t : Role) (i : ℕ) (e : FrameError) (p : ℕ) (k r : Numbered) → Held fs s (node i e p k r) → tally i k + tally i r ≡ 0
    → Held (set fs i (with_role t (get_or fs i blank))) t (node i e p k r)
held_role fs s t i e p k r h z = (
  simp length-set h.0,
  get_or-set_same fs i _ blank h.0 ∙ ap (with_role t) h.1,
  held_set fs Linked k i _ h.2 (omega arith),
  held_set fs Linked r i _ h.3 (omega arith),
)

-- a forest joined at the end of another
pub join : (fs : List Frame) (s : Role) (i : ℕ) (e : FrameError) (p : ℕ) (k r t : Numbered) → Held fs s (node i e p k r) → Held fs Linked t
    → ((n : ℕ) → n < length fs → tally n (node i e p k r) + tally n t ≤ 1)
    → Held (set fs (last_from i r) (with_next (head_of t) (get_or fs (last_from i r) blank))) s (node i e p k (r beside t))
join fs s i e p k none t h g u =
    let o = one_same i i refl in
    let v = u i h.0 in (
      simp length-set h.0,
      get_or-set_same fs i _ blank h.0 ∙ ap (with_next (head_of t)) h.1,
      held_set fs Linked k i _ h.2 (omega arith),
      held_set fs Linked t i _ g (omega arith),
    )
join fs s i e p k (node j f q l r) t h g u =
    let a = last_in j f q l r in
    let v = u (last_from j r) (last_below fs Linked j f q l r h.3) in
    let ne : i ≢ last_from j r = λ w. apart (last_from j r) i (omega arith) (sym w) in (
      simp length-set h.0,
      get_or-set_other fs (last_from j r) i _ blank ne ∙ h.1,
      held_set fs Linked k (last_from j r) _ h.2 (omega arith),
      join fs Linked j f q l r t h.3 g (λ n lt. let w = u n lt in omega arith),
    )

-- the same where the first may be empty
pub joins : (fs : List Frame) (r t : Numbered) → Held fs Linked r → Held fs Linked t → ((n : ℕ) → n < length fs → tally n r + tally n t ≤ 1)
    → Held (changed fs (last_of r) (with_next (head_of t))) Linked (r beside t)
joins fs none t h g u = g
joins fs (node i e p k r) t h g u = join fs Linked i e p k r t h g u

-- the frame of a node that another links to has no role
pub inside : (fs : List Frame) (r : Numbered) (j : ℕ) → Held fs Linked r → 1 ≤ tally j r → (get_or fs j blank).role ≡ Linked
inside fs none j h u = absurd (omega arith)
inside fs (node i e p k r) j h u =
    ⊎_elim
    (λ q. subst (λ (x : ℕ). (get_or fs x blank).role ≡ Linked) (sym q) (ap (λ (f : Frame). f.role) h.1))
    (λ q. let o = one_other j i q in
    ⊎_elim (λ z. inside fs r j h.3 (omega arith)) (λ z. inside fs k j h.2 (omega arith)) (eq-zero-or-pos (tally j k)))
    (cases_eq j i)

pub tally_past : (fs : List Frame) (s : Role) (r : Numbered) (j : ℕ) → Held fs s r → length fs ≤ j → tally j r ≡ 0
tally_past fs s none j h u = refl
tally_past fs s (node i e p k r) j h u =
    let a = tally_past fs Linked k j h.2 u in
    let b = tally_past fs Linked r j h.3 u in
    let lt = h.0 in
    let o = one_other j i (λ q. omega arith) in omega arith

pub tallies_past : (fs : List Frame) (bs : List Block) (j : ℕ) → Stand fs bs → length fs ≤ j → tallies j bs ≡ 0
tallies_past fs [] j h u = refl
tallies_past fs (b ∷ bs) j h u = let a = tally_past fs (role_of b) (nodes b) j h.0 u in let c = tallies_past fs bs j h.1 u in omega arith
