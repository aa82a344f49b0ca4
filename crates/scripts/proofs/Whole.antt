-- What the output is in each case.
use Rattle.std.proofs.Common.{◌≡◌, nat_lt, inl, inr, ltb-true, ltb-false, ℕ, ◌+◌, ◌<◌, ◌≤◌, ◌^◌, List, ◌∷◌, ◌++◌, length, take, drop, Some, None, Ok, Err, Result, decimal, sym, ap, ◌∙◌, subst, zero-add, length-append, arith}
use Rattle.std.proofs.lemmas.Bool.{cases_Bool}
use Rattle.std.proofs.lemmas.Fmt.{length-decimal-le}
use Rattle.std.proofs.lemmas.List.{take_at}
use Rattle.vocabulary.specs.Refusal.{too_long}
use Rattle.vocabulary.specs.declared.fault.HostFault.TheVariants.{NotLive, TextTooLong}
use Rattle.vocabulary.specs.declared.fault.StoreFault.{StoreFault}
use Rattle.vocabulary.specs.declared.fault.StoreFault.TheVariants.{NotHeld, Host, NoFrames, ListTooShort, NotFlattening}
use Rattle.trees.specs.Trees.{Forest}
use Rattle.buffers.specs.Printed.{Printed, written}
use Rattle.script_runs.proofs.Once.{once}
use Rattle.script_runs.specs.Runs.{Runs}
use Rattle.script_runs.specs.Steps.{line_fault_number}
use Rattle.script_runs.specs.declared.fault.LineFault.{LineFault}
use Rattle.script_runs.specs.declared.fault.LineFault.TheVariants.{NotRead, TooFew, Store as Unmade}
use Rattle.script_runs.specs.declared.fault.ScriptFault.{ScriptFault}
use Rattle.scripts.specs.Output.{Fits, Output, OutputOnce}
use Rattle.scripts.specs.Puts.{PutIf}
use Rattle.scripts.specs.Texts.{answer_text, fault_text, newline, row_text, too_long_text}

store_small : (f : StoreFault) → line_fault_number (Unmade f) ≤ 10
store_small NotHeld = omega arith
store_small (Host (NotLive e)) = omega arith
store_small (Host (TextTooLong n)) = omega arith
store_small (NoFrames n) = omega arith
store_small (ListTooShort n) = omega arith
store_small (NotFlattening n) = omega arith

number_small : (f : LineFault) → line_fault_number f ≤ 10
number_small NotRead = omega arith
number_small TooFew = omega arith
number_small (Unmade f) = store_small f

pub fault_short : (line : ℕ) (f : LineFault) → line < 2 ^ 64 → length (fault_text (record { line = line; fault = f })) ≤ 65536
fault_short line f h =
    let a = length-decimal-le 20 line (omega arith) (omega arith) h in
    let few = number_small f in
    let b = length-decimal-le 2 (line_fault_number f) (omega arith) (omega arith) (omega arith) in
    let c = length-append (decimal (line_fault_number f)) newline in
    let d = length-append (decimal line) (32 ∷ 114 ∷ 101 ∷ 102 ∷ 117 ∷ 115 ∷ 101 ∷ 100 ∷ 32 ∷ (decimal (line_fault_number f) ++ newline)) in
    omega arith

too_long_short : length too_long_text ≤ 65536
too_long_short =
    let a = length-decimal-le 1 too_long (omega arith) (omega arith) (omega arith) in
    let b = length-append (decimal too_long) newline in
    omega arith

-- a text that fits
pub fits : (text otherwise old new : List ℕ) (n : ℕ) → length text ≤ 65536 → n ≡ length text → new ≡ written 0 text old → Fits text otherwise old new n
fits text otherwise old new n short is put = record {
  fits = λ _. (is, put ∙ ap (λ (k : ℕ). text ++ drop k old) (zero-add (length text) ∙ sym is));
  too_long = λ long. absurd (omega arith);
}

pub row_put : (script old new : List ℕ) (n : ℕ) (row : Forest) → Runs script (Ok row) → length old ≡ 65536 → PutIf (row_text row) 0 old new (Some n) → Output script old new n
row_put script old new n row r size p =
    let answer : Result Forest ScriptFault = Ok row in
    let is : n ≡ length (row_text row) = p.0 ∙ zero-add (length (row_text row)) in
    record { answer = answer; runs = r; printed = fits (row_text row) too_long_text old new n (omega (arith, is, p.1)) is p.2 }

pub fault_put : (script old new : List ℕ) (n : ℕ) (f : ScriptFault) → Runs script (Err f) → length old ≡ 65536 → length (fault_text f) ≤ 65536 → Printed 0 n old new (fault_text f) → Output script old new n
fault_put script old new n f r size short p =
    let answer : Result Forest ScriptFault = Err f in
    let put = p.fits (omega (arith, short, size)) in
    record { answer = answer; runs = r; printed = fits (fault_text f) too_long_text old new n short (put.0 ∙ zero-add (length (fault_text f))) put.1 }

pub too_long_put : (script old x new : List ℕ) (n : ℕ) (row : Forest) → Runs script (Ok row) → length old ≡ 65536 → PutIf (row_text row) 0 old x None → Printed 0 n x new too_long_text → Output script old new n
too_long_put script old x new n row r size none p =
    let answer : Result Forest ScriptFault = Ok row in
    let past : 65536 < length (row_text row) = omega (arith, none.0) in
    let put = p.fits (omega (arith, none.1, size, too_long_short)) in
    let is : n ≡ length too_long_text = put.0 ∙ zero-add (length too_long_text) in
    record {
      answer = answer;
      runs = r;
      printed = record {
        fits = λ short. absurd (omega arith);
        too_long = λ _. (is, ap (take n) put.1 ∙ take_at too_long_text (drop (0 + length too_long_text) x) n (sym is));
      };
    }

-- the output of a script does not depend on what the buffer held
same_front : (text otherwise old new old' new' : List ℕ) (n m : ℕ) → Fits text otherwise old new n → Fits text otherwise old' new' m → (n ≡ m) × (take n new ≡ take m new')
same_front text otherwise old new old' new' n m p q =
    elim (cases_Bool (nat_lt 65536 (length text))) [
      | inl more ↦
          let long = ltb-true 65536 (length text) more in
          let a = p.too_long long in
          let b = q.too_long long in
          (a.0 ∙ sym b.0, a.1 ∙ sym b.1)
      | inr less ↦
          let short = ltb-false 65536 (length text) less in
          let a = p.fits short in
          let b = q.fits short in
          let front : take n new ≡ text = ap (take n) a.1 ∙ take_at text (drop n old) n (sym a.0) in
          let other : take m new' ≡ text = ap (take m) b.1 ∙ take_at text (drop m old') m (sym b.0) in
          (a.0 ∙ sym b.0, front ∙ sym other)
    ]

pub output_once : OutputOnce
output_once script old new old' new' n m p q =
    same_front (answer_text p.answer) too_long_text old new old' new' n m p.printed
    (subst (λ (a : Result Forest ScriptFault). Fits (answer_text a) too_long_text old' new' m) (once script q.answer p.answer q.runs p.runs) q.printed)

pub output_within : (script old new : List ℕ) (n : ℕ) → Output script old new n → n ≤ 65536
output_within script old new n p =
    elim (cases_Bool (nat_lt 65536 (length (answer_text p.answer)))) [
      | inl more ↦ let is = (p.printed.too_long (ltb-true 65536 (length (answer_text p.answer)) more)).0 in omega (arith, is, too_long_short)
      | inr less ↦
          let short = ltb-false 65536 (length (answer_text p.answer)) less in
          let is = (p.printed.fits short).0 in
          omega (arith, is, short)
    ]
