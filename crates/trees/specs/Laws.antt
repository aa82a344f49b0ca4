use Rattle.std.specs.Prelude.{◌≡◌}
use Rattle.trees.specs.Trees.{frames}
use Rattle.trees.specs.Numbered.{Numbered, shape, size}

abbrev pub Counted : Type 0
Counted = (r : Numbered) → frames (shape r) ≡ size r
