-- The links of frames that are laid out are well formed.
use Rattle.std.proofs.lemmas.Bool.Decides.{nat_tests}
use Rattle.std.proofs.Common.{◌≡◌, ℕ, ◌+◌, ◌<◌, ◌≤◌, ◌⊎◌, List, [], ◌∷◌, length, get_or, Some, None, Option, sym, refl, ap, ◌∙◌, subst, inl, inr, ⊎_elim, arith}
use mathlib.Core.Logic.{∥∥₁_elim, ∥∥₁_prop}
use mathlib.Core.HLevel.{⊥_prop}
use native.Mathlib.Nat.{ℕ_set}
use Rattle.std.proofs.Math.Nat.{eq-zero-or-pos}
use Rattle.std.proofs.lemmas.Bool.{cases_eq, cases_lt}
use Rattle.std.proofs.lemmas.List.{get_or_past}
use Rattle.vocabulary.specs.declared.frame_error.FrameError.{FrameError}
use Rattle.trees.specs.Numbered.{Numbered, none, node, one, tally, head_of}
use Rattle.trees.proofs.Numbered.{one_same, one_other}
use Rattle.layout.specs.declared.frame.Role.{Role}
use Rattle.layout.specs.declared.frame.Role.TheVariants.{Linked}
use Rattle.layout.specs.declared.frame.Frame.{Frame}
use Rattle.layout.specs.Layout.{blank, Held, Block, report, row, nodes, role_of, Stand, tallies, Laid, Sound}
use Rattle.layout.specs.Invariant.{Along, here, next, From, self, down, Ancestor, Begins, Root, Belongs, Free, WellFormed}
use Rattle.layout.proofs.Held.{inside, tally_past, tallies_past}
use Rattle.layout.proofs.Told.{is_first, linked_inside}
use Rattle.layout.proofs.Front.{With, here as with_first, there as with-later}

none_some : (n : ℕ) → Some n ≡ None → ⊥
none_some n q = cc

-- a node of a forest, with what is beneath it
pub record Found (fs : List Frame) (r : Numbered) (n : ℕ) : Type 0 where
  pub role : Role
  pub error : FrameError
  pub place : ℕ
  pub kids : Numbered
  pub rest : Numbered
  pub held : Held fs role (node n error place kids rest)
  pub part : (m : ℕ) → one m n + tally m kids ≤ tally m r

-- among the first nodes
along : (fs : List Frame) (s : Role) (r : Numbered) (o : Option ℕ) (n : ℕ) → Held fs s r → Along fs o n → o ≡ head_of r → Found fs r n
along fs s none o n h here q = absurd (none_some n q)
along fs s none o n h (next {i = i} a) q = absurd (none_some i q)
along fs s (node i e p k r) o n h here q =
    let ni : i ≡ n = cc in
    subst (λ (x : ℕ). Found fs (node i e p k r) x) ni (record { role = s; error = e; place = p; kids = k; rest = r; held = h; part = λ m. omega arith })
along fs s (node i e p k r) o n h (next {i = j} a) q =
    let ji : j ≡ i = cc in
    let f = along fs Linked r (get_or fs j blank).next n h.3 a (ap (λ (x : ℕ). (get_or fs x blank).next) ji ∙ ap (λ (g : Frame). g.next) h.1) in
    record { role = f.role; error = f.error; place = f.place; kids = f.kids; rest = f.rest; held = f.held; part = λ m. let v = f.part m in omega arith }

-- what is reached from a node is the node or counts beneath it
from : (fs : List Frame) (i n : ℕ) → From fs i n → (s : Role) (e : FrameError) (p : ℕ) (k r : Numbered) → Held fs s (node i e p k r) → 1 ≤ one n i + tally n k
from fs i n self s e p k r h = let a = one_same n n refl in omega arith
from fs i n (down {c = c} a u) s e p k r h =
    let f = along fs Linked k (get_or fs i blank).first c h.2 a (ap (λ (g : Frame). g.first) h.1) in
    let b = from fs c n u f.role f.error f.place f.kids f.rest f.held in
    let d = f.part n in
    omega arith

beneath : (fs : List Frame) (s : Role) (r : Numbered) (o : Option ℕ) (c n : ℕ) → Held fs s r → Along fs o c → o ≡ head_of r → From fs c n → 1 ≤ tally n r
beneath fs s r o c n h a q u =
    let f = along fs s r o c h a q in
    let b = from fs c n u f.role f.error f.place f.kids f.rest f.held in
    let d = f.part n in
    omega arith

-- a number that counts is reached
reach : (fs : List Frame) (s : Role) (r : Numbered) (n : ℕ) → Held fs s r → 1 ≤ tally n r → (c : ℕ) × Along fs (head_of r) c × From fs c n
reach fs s none n h u = absurd (omega arith)
reach fs s (node i e p k r) n h u =
    ⊎_elim
    (λ q. (i, here, subst (λ (x : ℕ). From fs i x) (sym q) self))
    (λ q. let o = one_other n i q in
    ⊎_elim
    (λ z. let f = reach fs Linked r n h.3 (omega arith) in
    (f.0, next (subst (λ (x : Option ℕ). Along fs x f.0) (sym (ap (λ (g : Frame). g.next) h.1)) f.1), f.2))
    (λ z. let f = reach fs Linked k n h.2 z in
    (i, here, down (subst (λ (x : Option ℕ). Along fs x f.0) (sym (ap (λ (g : Frame). g.first) h.1)) f.1) f.2))
    (eq-zero-or-pos (tally n k)))
    (cases_eq n i)

-- what the first node reaches, no later one does
parted : (fs : List Frame) (s : Role) (i : ℕ) (e : FrameError) (p : ℕ) (k r : Numbered) (j c d n : ℕ) → Held fs s (node i e p k r) → tally n (node i e p k r) ≤ 1
    → c ≡ i → From fs c n → j ≡ i → Along fs (get_or fs j blank).next d → From fs d n → ⊥
parted fs s i e p k r j c d n h u ci f ji b g =
    let x = from fs i n (subst (λ (y : ℕ). From fs y n) ci f) s e p k r h in
    let y = beneath fs Linked r (get_or fs j blank).next d n h.3 b (ap (λ (z : ℕ). (get_or fs z blank).next) ji ∙ ap (λ (z : Frame). z.next) h.1) g in
    omega arith

-- two of the first nodes that reach one number are one
alike : (fs : List Frame) (s : Role) (r : Numbered) (o o' : Option ℕ) (c d n : ℕ) → Held fs s r → tally n r ≤ 1
    → Along fs o c → o ≡ head_of r → From fs c n → Along fs o' d → o' ≡ head_of r → From fs d n → c ≡ d
alike fs s none o o' c d n h u here q f b w g = absurd (none_some c q)
alike fs s none o o' c d n h u (next {i = i} a) q f b w g = absurd (none_some i q)
alike fs s (node i e p k r) o o' c d n h u here q f here w g = cc
alike fs s (node i e p k r) o o' c d n h u here q f (next {i = j} b) w g = absurd (parted fs s i e p k r j c d n h u (cc) f (cc) b g)
alike fs s (node i e p k r) o o' c d n h u (next {i = j} a) q f here w g = absurd (parted fs s i e p k r j d c n h u (cc) g (cc) a f)
alike fs s (node i e p k r) o o' c d n h u (next {i = j} a) q f (next {i = l} b) w g =
    let ji : j ≡ i = cc in
    let li : l ≡ i = cc in
    alike fs Linked r (get_or fs j blank).next (get_or fs l blank).next c d n h.3 (omega arith)
    a (ap (λ (z : ℕ). (get_or fs z blank).next) ji ∙ ap (λ (z : Frame). z.next) h.1) f
    b (ap (λ (z : ℕ). (get_or fs z blank).next) li ∙ ap (λ (z : Frame). z.next) h.1) g

-- a node anywhere in a forest
anywhere : (fs : List Frame) (s : Role) (r : Numbered) (n : ℕ) → Held fs s r → 1 ≤ tally n r → Found fs r n
anywhere fs s none n h u = absurd (omega arith)
anywhere fs s (node i e p k r) n h u =
    ⊎_elim
    (λ q. subst (λ (x : ℕ). Found fs (node i e p k r) x) (sym q) (record { role = s; error = e; place = p; kids = k; rest = r; held = h; part = λ m. omega arith }))
    (λ q. let o = one_other n i q in
    ⊎_elim
    (λ z. wider (anywhere fs Linked r n h.3 (omega arith)) (λ m. omega arith))
    (λ z. wider (anywhere fs Linked k n h.2 z) (λ m. omega arith))
    (eq-zero-or-pos (tally n k)))
    (cases_eq n i)
  where
    wider : {t : Numbered} → Found fs t n → ((m : ℕ) → tally m t ≤ tally m (node i e p k r)) → Found fs (node i e p k r) n
    wider f le = record { role = f.role; error = f.error; place = f.place; kids = f.kids; rest = f.rest; held = f.held; part = λ m. let a = f.part m in let b = le m in omega arith }

-- no node of a forest is its own ancestor
forest_acyclic : (fs : List Frame) (s : Role) (r : Numbered) (n : ℕ) → Held fs s r → tally n r ≤ 1 → 1 ≤ tally n r → Ancestor fs n n → ⊥
forest_acyclic fs s r n h u c a =
    let f = anywhere fs s r n h c in
    let b = beneath fs Linked f.kids (get_or fs n blank).first a.0 n f.held.2 a.1 (ap (λ (g : Frame). g.first) f.held.1) a.2 in
    let d = f.part n in
    let e = one_same n n refl in
    omega arith

not_linked : (s : Role) → Begins s → s ≡ Linked → ⊥
not_linked s b q = subst Begins q b

block_begins : (b : Block) → Begins (role_of b)
block_begins (report i e p k) = tt
block_begins (row i e p k r) = tt

-- the block that a frame begins
pub record Headed (fs : List Frame) (bs : List Block) (h : ℕ) : Type 0 where
  pub block : Block
  pub first : head_of (nodes block) ≡ Some h
  pub with : With fs bs block

headed : (fs : List Frame) (bs : List Block) (h : ℕ) → Stand fs bs → Begins (get_or fs h blank).role → 1 ≤ tallies h bs → Headed fs bs h
headed fs [] h s b u = absurd (omega arith)
headed fs (a ∷ bs) h s b u =
    ⊎_elim
    (λ q. record { block = a; first = q; with = with_first fs a bs s })
    (λ q. ⊎_elim
    (λ z. let f = headed fs bs h s.1 b (omega arith) in record { block = f.block; first = f.first; with = with-later fs a f.block bs s f.with })
    (λ z. absurd (not_linked _ b (linked_inside fs (role_of a) (nodes a) h s.0 q z)))
    (eq-zero-or-pos (tally h (nodes a))))
    (is_first (nodes a) h)

-- the blocks reach what counts in them
reach_live : (fs : List Frame) (bs : List Block) (n : ℕ) → Stand fs bs → 1 ≤ tallies n bs → (r : ℕ) × Belongs fs r n
reach_live fs [] n s u = absurd (omega arith)
reach_live fs (b ∷ bs) n s u =
    ⊎_elim
    (λ z. reach_live fs bs n s.1 (omega arith))
    (λ z. let f = reach fs (role_of b) (nodes b) n s.0 z in (f.0, (rooted b s.0 f.0 f.1, f.2)))
    (eq-zero-or-pos (tally n (nodes b)))
  where
    rooted : (b : Block) → Held fs (role_of b) (nodes b) → (r : ℕ) → Along fs (head_of (nodes b)) r → Root fs r
    rooted (report i e p k) h r a = grind (arith, nat_tests)
    rooted (row i e p k m) h r a = grind (arith, nat_tests)

module _ {fs : List Frame} {head : Option ℕ} {count : ℕ} {live : List Block} {free : Numbered} (l : Laid fs head count live free) where
  begins_live : (h : ℕ) → Begins (get_or fs h blank).role → (h < 1024) × (tallies h live ≡ 1)
  begins_live h b =
      ⊎_elim
      (λ lt. (lt, ⊎_elim (λ z. let o = l.once h lt in omega arith) (λ z. absurd (not_linked _ b (inside fs free h l.spare z))) (eq-zero-or-pos (tally h free))))
      (λ ge. absurd (not_linked _ b (ap (λ (g : Frame). g.role) (get_or_past fs h blank (let a = l.long in omega arith)))))
      (cases_lt h 1024)

  counts_below : (n : ℕ) → 1 ≤ tallies n live + tally n free → n < 1024
  counts_below n u =
      ⊎_elim (λ lt. lt)
      (λ ge. absurd (let m : length fs ≤ n = (let a = l.long in omega arith) in let a = tallies_past fs live n l.stand m in let b = tally_past fs Linked free n l.spare m in omega arith))
      (cases_lt n 1024)

  -- the block of a root, and what the root reaches
  block_of : (r : ℕ) (t : Root fs r) → Headed fs live t.0
  block_of r t = headed fs live t.0 l.stand t.1 (let a = (begins_live t.0 t.1).1 in omega arith)

  in_block : (r n : ℕ) (t : Root fs r) → From fs r n → 1 ≤ tally n (nodes (block_of r t).block)
  in_block r n t u = let f = block_of r t in beneath fs (role_of f.block) (nodes f.block) (Some t.0) r n f.with.held t.2 (sym f.first) u

  in_live : (r n : ℕ) → Belongs fs r n → 1 ≤ tallies n live
  in_live r n b = let f = block_of r b.0 in let a = in_block r n b.0 b.1 in let c = f.with.same n in omega arith

  in_free : (n : ℕ) → Free fs head n → 1 ≤ tally n free
  in_free n f = beneath fs Linked free head f.0 n l.spare f.1 l.begins f.2

  pub is_some : (n : ℕ) → n < 1024 → Free fs head n ⊎ ((r : ℕ) × Belongs fs r n)
  is_some n lt =
      let o = l.once n lt in
      ⊎_elim
      (λ z. inr (reach_live fs live n l.stand (omega arith)))
      (λ z. let f = reach fs Linked free n l.spare z in inl (f.0, subst (λ (x : Option ℕ). Along fs x f.0) (sym l.begins) f.1, f.2))
      (eq-zero-or-pos (tally n free))

  pub is_either : (n r : ℕ) → Free fs head n → Belongs fs r n → ⊥
  is_either n r f b =
      let a = in_free n f in
      let c = in_live r n b in
      let o = l.once n (counts_below n (omega arith)) in
      omega arith

  pub is_one : (n r s : ℕ) → Belongs fs r n → Belongs fs s n → r ≡ s
  is_one n r s b c =
      let f = block_of r b.0 in
      let u = in_block r n b.0 b.1 in
      let v = f.with.same n in
      let o = l.once n (counts_below n (omega arith)) in
      let h = b.0.0 in
      let k = c.0.0 in
      ⊎_elim
      (λ q. alike fs (role_of f.block) (nodes f.block) (Some h) (Some k) r s n f.with.held (omega arith)
      b.0.2 (sym f.first) b.1 c.0.2 (ap Some (sym q) ∙ sym f.first) c.1)
      (λ q. absurd (other f u v o q))
      (cases_eq h k)
    where
      other : (f : Headed fs live b.0.0) → 1 ≤ tally n (nodes f.block) → tallies n live ≡ tally n (nodes f.block) + tallies n f.with.rest → tallies n live + tally n free ≡ 1
          → (b.0.0 ≡ c.0.0 → ⊥) → ⊥
      other f u v o ne =
          let k = c.0.0 in
          let one_k = (begins_live k c.0.1).1 in
          let same = f.with.same k in
          let z : 1 ≤ tallies k f.with.rest =
          ⊎_elim (λ z. omega arith)
          (λ z. absurd (not_linked _ c.0.1 (linked_inside fs (role_of f.block) (nodes f.block) k f.with.held (λ q. ne (let g = f.first in (cc))) z)))
          (eq-zero-or-pos (tally k (nodes f.block))) in
          let g = headed fs f.with.rest k f.with.stand c.0.1 z in
          let w = beneath fs (role_of g.block) (nodes g.block) (Some k) s n g.with.held c.0.2 (sym g.first) c.1 in
          let x = g.with.same n in
          omega arith

  pub is_acyclic : (n : ℕ) → Ancestor fs n n → ⊥
  is_acyclic n a =
      ⊎_elim
      (λ lt. let o = l.once n lt in
      ⊎_elim
      (λ z. in_blocks live l.stand (omega arith) (omega arith))
      (λ z. forest_acyclic fs Linked free n l.spare (omega arith) z a)
      (eq-zero-or-pos (tally n free)))
      (λ ge. let e = get_or_past fs n blank (let b = l.long in omega arith) in
      none_along (get_or fs n blank).first (ap (λ (g : Frame). g.first) e) a.1)
      (cases_lt n 1024)
    where
      none_along : (o : Option ℕ) → o ≡ None → Along fs o a.0 → ⊥
      none_along o q here = none_some a.0 q
      none_along o q (next {i = i} b) = none_some i q

      in_blocks : (bs : List Block) → Stand fs bs → tallies n bs ≤ 1 → 1 ≤ tallies n bs → ⊥
      in_blocks [] s u v = omega arith
      in_blocks (b ∷ bs) s u v =
          ⊎_elim
          (λ z. in_blocks bs s.1 (omega arith) (omega arith))
          (λ z. forest_acyclic fs (role_of b) (nodes b) n s.0 (omega arith) z a)
          (eq-zero-or-pos (tally n (nodes b)))

pub well_formed : {fs : List Frame} {head : Option ℕ} {count : ℕ} → Sound fs head count → WellFormed fs head
well_formed s = record {
  some = λ n lt. ∥∥₁_elim s ∥∥₁_prop (λ l. ∣ is_some l.laid n lt ∣₁);
  either = λ n r f b. ∥∥₁_elim s ⊥_prop (λ l. is_either l.laid n r f b);
  one = λ n r t b c. ∥∥₁_elim s (ℕ_set r t) (λ l. is_one l.laid n r t b c);
  acyclic = λ n a. ∥∥₁_elim s ⊥_prop (λ l. is_acyclic l.laid n a);
}
