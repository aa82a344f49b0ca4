-- The policy that accepts nothing.
use Rattle.std.specs.Prelude.{Bool, false}
use Rattle.vocabulary.specs.declared.policy.Pair.{Pair}

abbrev pub never : Pair → Bool
never p = false
