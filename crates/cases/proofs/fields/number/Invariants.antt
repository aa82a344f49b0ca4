use Rattle.std.proofs.Common.{◌≡◌, ◌<◌, ◌^◌, drop}
use Rattle.cases.specs.Reading.{digits_at}
use Rattle.cases.proofs.fields.number.Given as goal

abbrev pub invariant-loop-digit : goal.invariant-loop-digit
invariant-loop-digit l = (digits_at 0 l.word ≡ digits_at l.value (drop l.digit-index l.word)) × (l.value < 2 ^ 32)
