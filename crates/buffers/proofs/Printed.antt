-- Bytes put one after another.
use Rattle.std.proofs.Common.{◌≡◌, ℕ, ◌+◌, ◌≤◌, List, [], ◌++◌, length, take, drop, sym, ap, ap₂, ◌∙◌, refl, arith}
use Rattle.std.proofs.lemmas.List.{append_assoc, length-append, length-take-le, take-append-drop, take_at}
use Rattle.std.proofs.lemmas.Slice.{drop-append-drop}
use Rattle.buffers.specs.Printed.{Printed, written}

-- bytes written behind those that were written before
written_after : (at mid : ℕ) (old a b : List ℕ) → mid ≡ at + length a → mid ≤ length old → written mid b (written at a old) ≡ written at (a ++ b) old
written_after at mid old a b is room =
    let before : List ℕ = take at old ++ a in
    let long : length before ≡ mid = length-append (take at old) a ∙ omega (arith, length-take-le at old (omega arith)) in
    let here : written at a old ≡ before ++ drop mid old = sym (append_assoc (take at old) a (drop (at + length a) old)) ∙ ap (λ (k : ℕ). before ++ drop k old) (sym is) in
    let n : at + length (a ++ b) ≡ mid + length b = omega (arith, length-append a b) in
    ap (written mid b) here
    ∙ ap₂ (λ (x y : List ℕ). x ++ (b ++ y)) (take_at before (drop mid old) mid long) (drop-append-drop mid old before (mid + length b) (omega arith) long ∙ ap (λ (k : ℕ). drop k old) (sym n))
    ∙ append_assoc (take at old) a (b ++ drop (at + length (a ++ b)) old)
    ∙ ap (λ (x : List ℕ). take at old ++ x) (sym (append_assoc a b (drop (at + length (a ++ b)) old)))

-- bytes that are put behind others are put with them
pub together : (at mid to : ℕ) (old x new a b : List ℕ) → Printed at mid old x a → Printed mid to x new b → Printed at to old new (a ++ b)
together at mid to old x new a b p q =
    let n : length (a ++ b) ≡ length a + length b = length-append a b in
    let first = p.ends in
    let second = q.ends in
    let long = p.long in
    record {
      ends = omega arith;
      fits = λ room.
          let u = p.fits (omega arith) in
          let is : mid ≡ at + length a = u.0 in
          let v = q.fits (omega arith) in
          let end : to ≡ mid + length b = v.0 in
          (omega arith, v.1 ∙ ap (written mid b) u.1 ∙ written_after at mid old a b is (omega arith));
      long = q.long ∙ p.long;
      front = λ k u v. q.front k (omega arith) v ∙ p.front k u (omega arith);
    }

-- nothing is put
pub nothing_put : (at : ℕ) (old : List ℕ) → at ≤ 18446744073709551615 → Printed at at old old []
nothing_put at old small = record {
  ends = omega arith;
  fits = λ room. (omega arith, sym (take-append-drop at old) ∙ ap (λ (k : ℕ). take at old ++ drop k old) (omega arith));
  long = refl;
  front = λ k u v. refl;
}
