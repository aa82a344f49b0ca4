use Rattle.std.proofs.Common.{Bool, true, bytes_eq, ◌≡◌, ℕ, Some, ap, sym, subst, ◌∙◌, decimal, arith}
use Rattle.std.proofs.lemmas.Fmt.{parse-decimal, IsAscii-decimal}
use Rattle.std.proofs.lemmas.Grind.{common_steps}
use Rattle.std.proofs.lemmas.Str.{IsUtf8-from_ascii}
use Rattle.std.proofs.lemmas.Slice.Eq.{bytes_eq-Decides}
use Rattle.std.specs.Bool.{then_some}
use Rattle.std.specs.Result.{result_ok}
use Rattle.std.specs.Str.{IsUtf8}
use Rattle.script_lines.proofs.number.error_number.Goals as goal

some_is : (m n : ℕ) → Some m ≡ Some n → m ≡ n
some_is m n e = cc

pub returns-in_err-ok-clause-only : goal.returns-in_err-ok-clause-only
returns-in_err-ok-clause-only c = λ n h e.
    let text : IsUtf8 c.args.digits.now = subst IsUtf8 (sym e) (IsUtf8-from_ascii (decimal n) (IsAscii-decimal n (omega arith))) in
    grind (arith, text)

pub returns-in_err-number-clause-only : goal.returns-in_err-number-clause-only
returns-in_err-number-clause-only c = λ n h e.
    let same : c.in_ok-ok.field-0.now ≡ c.args.digits.now = grind (arith, common_steps) in
    let read = parse-decimal 16 n c.in_ok-ok.field-0.now c.parse.result (omega arith) (omega arith) (same ∙ e) c.parse.ensures.value.0 in
    grind (arith, common_steps, read)

pub returns-clause-only : goal.returns-clause-only
returns-clause-only c = λ n h e.
    let same : c.in_ok-ok.field-0.now ≡ c.args.digits.now = grind (arith, common_steps) in
    let read = parse-decimal 16 n c.in_ok-ok.field-0.now c.parse.result (omega arith) (omega arith) (same ∙ e) c.parse.ensures.value.0 in
    let number : c.in_ok-number.number ≡ n = some_is c.in_ok-number.number n (c.in_ok-number.ensures.value ∙ ap result_ok read) in
    let spelled : bytes_eq (decimal c.in_ok-number.number) c.args.digits.now ≡ true = (bytes_eq-Decides (decimal c.in_ok-number.number) c.args.digits.now).1 (ap decimal number ∙ sym e) in
    let kept = c.is_decimal.ensures ∙ spelled in
    c.then_some.ensures ∙ ap (λ (b : Bool). then_some b c.in_ok-number.number) kept ∙ ap Some number
