-- The sources beneath an error.
use Rattle.std.specs.Prelude.{ℕ, zero, suc, List, [], ◌∷◌, Some, None, Option}
use Rattle.model.specs.Host.{Error, Errors, Live}

abbrev pub source_of : Option Error → Option ℕ
source_of None = None
source_of (Some m) = m.source

-- an error, its source, that one's source and so on, at most `limit` of them
unfoldable pub chain_up_to : Errors → ℕ → Option ℕ → List ℕ
chain_up_to h zero o = []
chain_up_to h (suc limit) None = []
chain_up_to h (suc limit) (Some e) = e ∷ chain_up_to h limit (source_of (h e))

-- Sources fall, so an error's chain has at most as many errors as its number allows.
abbrev pub bound : Option ℕ → ℕ
bound None = 0
bound (Some e) = suc e

-- the chain that begins with an error, where there is one
abbrev pub chain_from : Errors → Option ℕ → List ℕ
chain_from h o = chain_up_to h (bound o) o

-- an error and all sources beneath it
abbrev pub chain : Errors → ℕ → List ℕ
chain h e = chain_from h (Some e)

-- the sources beneath an error, nearest first
abbrev pub sources : Errors → ℕ → List ℕ
sources h e = chain_from h (source_of (h e))

-- there is no error, or it is live
abbrev pub LiveOrNone : Errors → Option ℕ → Type 0
LiveOrNone h None = Unit {0}
LiveOrNone h (Some e) = Live h e
