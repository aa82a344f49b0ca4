-- Where a session is, and how its calls end.
use Rattle.std.specs.Prelude.{map, Ok, Err, Result}
use Rattle.std.specs.Option.{option_map}
use Rattle.model.specs.Host.{Errors}
use Rattle.store.specs.Store.{ledger_of}
use Rattle.runs.specs.State.{State}
use Rattle.runs.specs.Step.{CallStep}
use Rattle.runs.specs.Tokens.{Stood, root_in}
use Rattle.runs.specs.declared.call.Answer.{Answer}
use Rattle.runs.specs.declared.call.Answer.TheVariants as answer
use Rattle.runs.specs.declared.call.Call.{Call}
use Rattle.runs.specs.declared.session.Session.{Session}
use Rattle.runs.specs.declared.stop.Stop.{Stop}
use Rattle.runs.specs.declared.stop.Stop.TheVariants.{Memory, Missing, Refused}

-- where a session is, over a host: its ledger is what its store holds
abbrev pub state_of : Errors → Session → State
state_of h s = record {
  number = s.store.number;
  other = s.other.number;
  foreign = root_in s.reports.foreign;
  errors = h;
  ledger = ledger_of s.store;
  reports = s.reports.names.items;
  baskets = s.baskets.names.items;
  chains = map (λ o. option_map (λ v. v.items) o) s.chains.items;
}

-- its store is one that calls lead to
abbrev pub Stands : Errors → Session → Type 0
Stands h s = Stood h s.store

-- how a call ends
abbrev pub Ends : State → Call → State → Result Answer Stop → Type 0
Ends st c st' (Ok a) = CallStep st c a st'
Ends st c st' (Err Memory) = Unit {0}
Ends st c st' (Err Missing) = CallStep st c answer.Missing st'
Ends st c st' (Err (Refused f)) = CallStep st c (answer.Refused f) st'
