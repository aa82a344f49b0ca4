-- A text that is not put, as the host turned a question down.
use Rattle.std.specs.Prelude.{ℕ, List, Ok, Err, Result, IsErr}
use Rattle.std.proofs.lemmas.Bool.{false≢true}
use Rattle.vocabulary.specs.declared.fault.HostFault.{HostFault}
use Rattle.prints.specs.Puts.{TextPut}

pub refused : (live : Type 0) (text : List ℕ) (at : ℕ) (old new : List ℕ) (r : Result ℕ HostFault) → IsErr r → (live → ⊥) → TextPut live text at old new r
refused live text at old new (Ok n) e dead = absurd (false≢true e)
refused live text at old new (Err f) e dead = dead
