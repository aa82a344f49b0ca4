-- When a building call is turned down: the first cause that holds of ledger, host and arguments, or none.
use Rattle.std.specs.Prelude.{ℕ, Bool, true, false, ◌&&◌, length, is_some, Some, None, Option, ◌==◌, nat_le, nat_lt}
use Rattle.vocabulary.specs.declared.fault.HostFault.TheVariants.{NotLive}
use Rattle.vocabulary.specs.declared.fault.StoreFault.{StoreFault}
use Rattle.vocabulary.specs.declared.fault.StoreFault.TheVariants.{NotHeld, Host, NoFrames, ListTooShort}
use Rattle.model.specs.Host.{Errors}
use Rattle.trees.specs.Trees.{Tree}
use Rattle.nodes.specs.Flattening.{flattening}
use Rattle.readings.specs.Readings.{errors_of, first_not_live}
use Rattle.ledger.specs.Ledger.{Ledger, free}

-- the fault where a condition fails, else what comes after it
abbrev pub unless : Bool → StoreFault → Option StoreFault → Option StoreFault
unless true fault rest = rest
unless false fault rest = Some fault

-- a report with the store number `s` and the root `x` is one of the store `number`
abbrev pub is_held : ℕ → Ledger → ℕ → ℕ → Bool
is_held number l s x = s == number && is_some (l.reports x)

abbrev pub is_row : Ledger → Option ℕ → Bool
is_row l None = true
is_row l (Some h) = is_some (l.rows h)

-- a basket with the store number `s` and the first root `b` is one of the store `number`
abbrev pub is_basket : ℕ → Ledger → ℕ → Option ℕ → Bool
is_basket number l s b = s == number && is_row l b

-- a new frame for an error of the host
abbrev pub frame_cause : Ledger → Errors → ℕ → Option StoreFault
frame_cause l h e = unless (is_some (h e)) (Host (NotLive e)) (unless (nat_lt 0 (free l)) (NoFrames 1) None)

abbrev pub held : Bool → Option StoreFault → Option StoreFault
held b rest = unless b NotHeld rest

-- no error, or the one that is not live
abbrev pub all_live : Option ℕ → Option StoreFault → Option StoreFault
all_live None rest = rest
all_live (Some e) rest = Some (Host (NotLive e))

-- a report is gone through: all its errors have to be live, and the fault names the first breadth-first that is not
abbrev pub live_cause : Errors → Tree → Option StoreFault → Option StoreFault
live_cause h t rest = all_live (first_not_live h (errors_of h t)) rest

-- its nodes go into a list with so much room
abbrev pub list_cause : Errors → Tree → ℕ → Option StoreFault
list_cause h t room = live_cause h t (unless (nat_le (length (flattening h t)) room) (ListTooShort (length (flattening h t))) None)
