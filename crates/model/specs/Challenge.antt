-- Where the deepest authentication challenge of a source chain stands. Numbers fall along a chain, so one number decides
-- for each error of the chain whether a challenge stands beneath it.
use Rattle.std.specs.Prelude.{ℕ, Bool, false, cond, List, [], ◌∷◌, Some, None, Option, nat_lt}
use Rattle.model.specs.Host.{Errors}
use Rattle.model.specs.Judge.{is_challenge}

abbrev pub or : Option ℕ → Option ℕ → Option ℕ
or None b = b
or (Some x) b = Some x

abbrev pub itself : Errors → ℕ → Option ℕ
itself h e = cond (is_challenge (h e)) (Some e) None

abbrev pub deepest : Errors → List ℕ → Option ℕ
deepest h [] = None
deepest h (e ∷ rest) = or (deepest h rest) (itself h e)

abbrev pub beneath : Option ℕ → ℕ → Bool
beneath None e = false
beneath (Some d) e = nat_lt d e
