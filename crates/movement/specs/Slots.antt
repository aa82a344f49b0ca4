-- What a session keeps.
use Rattle.std.specs.Prelude.{Bool, true, Some, None, Option}

-- a condition holds of what is in a slot, if anything is
abbrev pub in_slot : {X : Type 0} → (X → Bool) → Option X → Bool
in_slot holds None = true
in_slot holds (Some x) = holds x
