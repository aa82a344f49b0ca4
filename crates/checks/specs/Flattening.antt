-- The answer of a check, as a result.
use Rattle.std.specs.Prelude.{⊤, List, Ok, Err, Result}
use Rattle.vocabulary.specs.declared.fault.StoreFault.{StoreFault}
use Rattle.vocabulary.specs.declared.fault.StoreFault.TheVariants.{NotHeld, Host, NoFrames, ListTooShort, NotFlattening}
use Rattle.model.specs.Host.{Errors}
use Rattle.nodes.specs.declared.node.Node.{Node}
use Rattle.nodes.specs.Begins.{FirstBad, Flat}

-- why a list is refused: it is no flattening, and this is the first index that shows it
abbrev pub Refused : Errors → List Node → StoreFault → Type 0
Refused h xs NotHeld = ⊥
Refused h xs (Host f) = ⊥
Refused h xs (NoFrames n) = ⊥
Refused h xs (ListTooShort n) = ⊥
Refused h xs (NotFlattening i) = FirstBad h xs i

-- a flattening passes, every other list is refused
abbrev pub CheckResult : Errors → List Node → Result ⊤ StoreFault → Type 0
CheckResult h xs (Ok u) = Flat h xs
CheckResult h xs (Err f) = Refused h xs f
