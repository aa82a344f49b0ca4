-- The bytes of a text of plain letters.
use mathlib.Core.List as list
use Rattle.std.specs.Prelude.{ℕ, List}
use Prim.Native.Char.{code}
use Prim.Native.String.{String, [], ◌∷◌}

abbrev pub ascii : String → List ℕ
ascii [] = list.[]
ascii (c ∷ rest) = list.◌∷◌ (code c) (ascii rest)
