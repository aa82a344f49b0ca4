-- Where a run is.
use Rattle.std.specs.Prelude.{ℕ, List, ◌++◌, [], ◌∷◌, slice_index_or, slice_set, Some, None, Option}
use Rattle.model.specs.Host.{Errors}
use Rattle.nodes.specs.declared.node.Node.{Node}
use Rattle.ledger.specs.Ledger.{Ledger}
use Rattle.runs.specs.declared.call.Name.{Name}
use Rattle.runs.specs.declared.call.Name.TheVariants.{Made, Foreign}

-- the number of the store and what a report and an empty basket of another store are known by, which stay; what the host
-- tells; the ledger by arguments and answers; and what each name stands for, none where it is gone
pub record State : Type 0 where
  pub number : ℕ
  pub other : ℕ
  pub foreign : ℕ
  pub errors : Errors
  pub ledger : Ledger
  pub reports : List (Option ℕ)
  pub baskets : List (Option (Option ℕ))
  pub chains : List (Option (List Node))

-- a report or basket as a call is handed it: its store's number, and what it is known by
pub record Handle (R : Type 0) : Type 0 where
  pub store : ℕ
  pub root : R

-- what the i-th name stands for
abbrev pub named : {A : Type 0} → List (Option A) → ℕ → Option A
named xs i = slice_index_or xs i None

abbrev pub in_store : {R : Type 0} → ℕ → Option R → Option (Handle R)
in_store n None = None
in_store n (Some r) = Some (record { store = n; root = r })

abbrev pub report_of : State → Name → Option (Handle ℕ)
report_of st (Made i) = in_store st.number (named st.reports i)
report_of st Foreign = Some (record { store = st.other; root = st.foreign })

abbrev pub basket_of : State → Name → Option (Handle (Option ℕ))
basket_of st (Made i) = in_store st.number (named st.baskets i)
basket_of st Foreign = Some (record { store = st.other; root = None })

-- a name then stands for something else, or for nothing; that of another store's stays
abbrev pub renamed : {A : Type 0} → List (Option A) → Name → Option A → List (Option A)
renamed xs (Made i) v = slice_set xs i v
renamed xs Foreign v = xs

abbrev pub gone : {A : Type 0} → List (Option A) → Name → List (Option A)
gone xs n = renamed xs n None

-- one name more
abbrev pub and_named : {A : Type 0} → List (Option A) → A → List (Option A)
and_named xs v = xs ++ Some v ∷ []

-- the state after a call
abbrev pub after : State → Ledger → List (Option ℕ) → List (Option (Option ℕ)) → List (Option (List Node)) → State
after st l reports baskets chains =
    record { number = st.number; other = st.other; foreign = st.foreign; errors = st.errors; ledger = l; reports = reports; baskets = baskets; chains = chains }

-- the state after the host told something else
abbrev pub with_errors : State → Errors → State
with_errors st h =
    record { number = st.number; other = st.other; foreign = st.foreign; errors = h; ledger = st.ledger; reports = st.reports; baskets = st.baskets; chains = st.chains }
