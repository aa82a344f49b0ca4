-- The tokens of a store.
use Rattle.std.specs.Prelude.{ℕ, Option}
use Rattle.store.specs.declared.token.Token.{Token}

-- a report, known by its root
abbrev pub Exn : Type 0
Exn = Token ℕ

-- a basket, known by the root of its first report; an empty one has none
abbrev pub Basket : Type 0
Basket = Token (Option ℕ)
