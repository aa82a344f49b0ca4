-- What it says that a host answered a question.
use Rattle.std.proofs.Common.{◌≡◌, ℕ, is_some, Some, None, Ok, Option, refl, ap}
use Rattle.model.specs.Host.{Error, Errors, Live, answer}

pub answered : {A : Type 0} (o : Option Error) (e : ℕ) (f : Error → A) (a : A) → Ok a ≡ answer o e f → (m : Error) × (o ≡ Some m) × (a ≡ f m)
answered None e f a q = absurd cc
answered (Some m) e f a q = (m, refl, (let n : a ≡ f m = cc in n))

-- an error that a question was answered of is live
pub live_since : {A : Type 0} (h : Errors) (e : ℕ) (f : Error → A) (a : A) → Ok a ≡ answer (h e) e f → Live h e
live_since h e f a q = ap is_some (answered (h e) e f a q).1
