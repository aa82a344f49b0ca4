-- The tokens of a store that a session holds, and what names stand for.
use Rattle.std.specs.Prelude.{◌≡◌, ℕ, ◌<◌, Bool, true, false, is_some, List, slice_set, Some, None, Ok, Err, Option, Result}
use Rattle.std.specs.Option.{ok_or}
use Rattle.vocabulary.specs.declared.fault.StoreFault.TheVariants.{NotHeld}
use Rattle.model.specs.Host.{Errors}
use Rattle.store.specs.Calls.{report_held}
use Rattle.store.specs.Reached.{Reached}
use Rattle.store.specs.Store.{Became, ledger_of}
use Rattle.store.specs.declared.store.Store.{Store}
use Rattle.store.specs.declared.token.Token.{Token}
use Rattle.store.specs.Token.{Basket, Exn}
use Rattle.runs.specs.State.{named}
use Rattle.runs.specs.declared.call.Name.{Name}
use Rattle.runs.specs.declared.call.Name.TheVariants.{Made, Foreign}
use Rattle.runs.specs.declared.stop.Stop.{Stop}
use Rattle.runs.specs.declared.stop.Stop.TheVariants.{Missing, Refused}

-- the token with this root, where it is live
abbrev pub kept : {R : Type 0} → ℕ → Bool → R → Option (Token R)
kept number true r = Some (record { store = number; root = r; spent = false })
kept number false r = None

-- the reports and rows of a store
abbrev pub reports_live : Store → ℕ → Bool
reports_live s n = is_some ((ledger_of s).reports n)

abbrev pub rows_live : Store → ℕ → Bool
rows_live s n = is_some ((ledger_of s).rows n)

-- a token of each root that is live, at the number by which it is known, and no others
abbrev pub Keeps : {R : Type 0} → ℕ → (ℕ → Bool) → (ℕ → R) → List (Option (Token R)) → Type 0
Keeps number live root tokens = (n : ℕ) → named tokens n ≡ kept number (live n) (root n)

abbrev pub Empty : {R : Type 0} → List (Option (Token R)) → Type 0
Empty tokens = (n : ℕ) → named tokens n ≡ None

-- the token of what a name stands for; one whose root is not live is turned down as any such handle
abbrev pub at_root : List (Option Exn) → Option ℕ → Result Exn Stop
at_root tokens None = Err Missing
at_root tokens (Some r) = ok_or (named tokens r) (Refused NotHeld)

abbrev pub found : List (Option ℕ) → List (Option Exn) → Option Exn → Name → Result Exn Stop
found names tokens foreign (Made i) = at_root tokens (named names i)
found names tokens foreign Foreign = ok_or foreign (Refused NotHeld)

-- the tokens with another, or none, where a name's was
abbrev pub set_at : {A : Type 0} → List (Option A) → Option ℕ → Option A → List (Option A)
set_at tokens None t = tokens
set_at tokens (Some r) t = slice_set tokens r t

abbrev pub set_named : List (Option ℕ) → List (Option Exn) → Name → Option Exn → List (Option Exn)
set_named names tokens (Made i) t = set_at tokens (named names i) t
set_named names tokens Foreign t = tokens

abbrev pub set_foreign : Option Exn → Name → Option Exn → Option Exn
set_foreign foreign (Made i) t = foreign
set_foreign foreign Foreign t = t

-- there is a place for the token of what a name stands for, and it is out
abbrev pub vacant_at : List (Option Exn) → Option ℕ → Type 0
vacant_at tokens None = ⊥
vacant_at tokens (Some r) = (r < 1024) × (named tokens r ≡ None)

abbrev pub Vacant : List (Option ℕ) → List (Option Exn) → Option Exn → Name → Type 0
Vacant names tokens foreign (Made i) = vacant_at tokens (named names i)
Vacant names tokens foreign Foreign = foreign ≡ None

-- the token of what a name stands for, if its root is live
abbrev pub lent_at : List (Option Exn) → Option ℕ → Option Exn
lent_at tokens None = None
lent_at tokens (Some r) = named tokens r

abbrev pub lent : List (Option ℕ) → List (Option Exn) → Option Exn → Name → Option Exn
lent names tokens foreign (Made i) = lent_at tokens (named names i)
lent names tokens foreign Foreign = foreign

-- a name stands for something
abbrev pub is_named : {A : Type 0} → List (Option A) → Name → Bool
is_named names (Made i) = is_some (named names i)
is_named names Foreign = true

-- what a report is known by, 0 where there is none
abbrev pub root_in : Option Exn → ℕ
root_in None = 0
root_in (Some x) = x.root

-- there is a report, and it is the store's
abbrev pub report_in : Store → Option Exn → Bool
report_in s None = false
report_in s (Some x) = report_held s x

-- the store's number and its ledger stay
abbrev pub Same : Store → Store → Type 0
Same before after = Became before after (ledger_of before)

-- a store that calls lead to
abbrev pub Stood : Errors → Store → Type 0
Stood h s = Reached h s (ledger_of s)

-- an empty basket
abbrev pub empty_of : ℕ → Basket
empty_of number = record { store = number; root = None; spent = false }

-- the token of what a name stands for
abbrev pub at_row : ℕ → List (Option Basket) → Option (Option ℕ) → Result Basket Stop
at_row number tokens None = Err Missing
at_row number tokens (Some None) = Ok (empty_of number)
at_row number tokens (Some (Some r)) = ok_or (named tokens r) (Refused NotHeld)

abbrev pub found_basket : ℕ → ℕ → List (Option (Option ℕ)) → List (Option Basket) → Name → Result Basket Stop
found_basket number other names tokens (Made i) = at_row number tokens (named names i)
found_basket number other names tokens Foreign = Ok (empty_of other)

-- the tokens with another, or none, in the place of a row; an empty one has none
abbrev pub set_row : List (Option Basket) → Option ℕ → Option Basket → List (Option Basket)
set_row tokens None t = tokens
set_row tokens (Some r) t = slice_set tokens r t

abbrev pub flat : Option (Option ℕ) → Option ℕ
flat None = None
flat (Some o) = o

abbrev pub set_basket : List (Option (Option ℕ)) → List (Option Basket) → Name → Option Basket → List (Option Basket)
set_basket names tokens (Made i) t = set_row tokens (flat (named names i)) t
set_basket names tokens Foreign t = tokens

abbrev pub VacantRow : List (Option Basket) → Option ℕ → Type 0
VacantRow tokens None = Unit {0}
VacantRow tokens (Some r) = (r < 1024) × (named tokens r ≡ None)

-- the number of the store that a name's basket is one of
abbrev pub number_of : ℕ → ℕ → Name → ℕ
number_of number other (Made i) = number
number_of number other Foreign = other
