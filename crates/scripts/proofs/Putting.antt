-- Texts put one after another.
use Rattle.std.proofs.Common.{◌≡◌, ◌<◌, Bool, leb, Option, Some, None, inl, inr, subst, length-append, ℕ, ◌+◌, ◌-◌, ◌≤◌, List, [], ◌++◌, length, take, drop, sym, ap, ap₂, ◌∙◌, length-drop, arith}
use Rattle.std.proofs.Math.Seq.{drop-length}
use Rattle.std.proofs.lemmas.Bool.{cases_Bool, leb-false, leb-true}
use Rattle.std.proofs.lemmas.List.{append-nil, drop-drop, length-take-le, take-append-le, take-take, take_all}
use Rattle.std.specs.Bool.{then_some}
use borrow.Rule.Slice.PartMut.{mid_of, put_mid}
use Rattle.buffers.proofs.Printed.{together}
use Rattle.buffers.specs.Printed.{Printed, written}
use Rattle.scripts.specs.Puts.{PutIf}

infixr 25 ◌and◌
pub ◌and◌ : {at mid to : ℕ} {old x new a b : List ℕ} → Printed at mid old x a → Printed mid to x new b → Printed at to old new (a ++ b)
◌and◌ {at} {mid} {to} {old} {x} {new} {a} {b} p q = together at mid to old x new a b p q

-- a text at the front of the part that begins at a position
pub part_written : (at : ℕ) (text old new : List ℕ) → at ≤ length old → new ≡ text ++ drop (length text) (mid_of at (length old - at) old) → put_mid at (length old - at) old new ≡ written at text old
part_written at text old new room e =
    let whole : mid_of at (length old - at) old ≡ drop at old = take_all (length old - at) (drop at old) (omega (arith, length-drop at old)) in
    let rest : drop (length text) (mid_of at (length old - at) old) ≡ drop (at + length text) old = ap (drop (length text)) whole ∙ drop-drop (length text) at old in
    let nothing : drop (length old - at) (drop at old) ≡ [] = drop-drop (length old - at) at old ∙ ap (λ (k : ℕ). drop k old) (omega arith) ∙ drop-length old in
    ap₂ (λ (x y : List ℕ). take at old ++ (x ++ y)) (e ∙ ap (λ (x : List ℕ). text ++ x) rest) nothing ∙ ap (λ (x : List ℕ). take at old ++ x) (append-nil (text ++ drop (at + length text) old))

-- a text that is put, as one that was put where it fits
pub printed_of : (at to : ℕ) (text old new : List ℕ) → at ≤ length old → length old ≤ 65536 → length new ≡ length old → PutIf text at old new (Some to) → Printed at to old new text
printed_of at to text old new room small same p =
    let e = p.0 in
    let f = p.1 in
    record {
      ends = omega arith;
      fits = λ _. (p.0, p.2);
      long = same;
      front = λ k u v. ap (take k) p.2 ∙ take-append-le k (take at old) (text ++ drop (at + length text) old) (omega (arith, length-take-le at old room)) ∙ take-take k at old u;
    }

pub put_if : (at to : ℕ) (text old new : List ℕ) (o : Option ℕ) → length old ≤ 65536 → Printed at to old new text → o ≡ then_some (leb to (length new)) to → PutIf text at old new o
put_if at to text old new o small p q =
    elim (cases_Bool (leb to (length new))) [
      | inl fits ↦
          let within : to ≤ length new = leb-true to (length new) fits in
          let room : at + length text ≤ length old = omega (arith, within, p.long, p.ends) in
          let put = p.fits room in
          subst (PutIf text at old new) (sym (q ∙ ap (λ (b : Bool). then_some b to) fits)) (put.0, omega (arith, within, p.long), put.1)
      | inr past ↦
          let beyond : length new < to = leb-false to (length new) past in
          subst (PutIf text at old new) (sym (q ∙ ap (λ (b : Bool). then_some b to) past)) (omega (arith, beyond, p.long, p.ends), p.long)
    ]

-- where there is no room for the front of a text there is none for the text
pub longer : (at : ℕ) (front text old new : List ℕ) → PutIf front at old new None → PutIf (front ++ text) at old new None
longer at front text old new p = (omega (arith, p.0, length-append front text), p.1)
