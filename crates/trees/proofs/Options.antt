-- A value that is there.
use Rattle.std.proofs.Common.{◌≡◌, true, is_some, Some, None, Option, refl}

pub there : {A : Type 0} → (o : Option A) → is_some o ≡ true → (x : A) × (o ≡ Some x)
there None s = absurd cc
there (Some x) s = (x, refl)
