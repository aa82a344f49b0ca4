-- What is handed in, and comes back where a call is turned down.
use Rattle.std.specs.Prelude.{Ok, Err, Result}
use Rattle.vocabulary.specs.declared.fault.StoreFault.{StoreFault}
use Rattle.vocabulary.specs.declared.fault.StoreFault.TheVariants.{NotHeld}
use Rattle.store.specs.declared.token.Refusal.{Refusal}

abbrev pub not_held : {X : Type 0} → X → Refusal X
not_held x = record { fault = NotHeld; given = x }

-- what was made beside what was handed in, which a fault hands back
abbrev pub beside : {A X : Type 0} → Result A StoreFault → X → Result (A × X) (Refusal X)
beside (Ok a) x = Ok (a, x)
beside (Err f) x = Err (record { fault = f; given = x })
