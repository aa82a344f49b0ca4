-- The law of a whole run.
use Rattle.std.specs.Prelude.{◌≡◌, ℕ, Bool, List, [], ◌∷◌, Some, None, Option}
use Rattle.vocabulary.specs.Policy.{standard}
use Rattle.vocabulary.specs.declared.policy.Pair.{Pair}
use Rattle.vocabulary.specs.declared.policy.StandardPolicy.TheVariants.{CanRetry, CanRetryLenient}
use Rattle.model.specs.Host.{Errors}
use Rattle.trees.specs.Trees.{Tree}
use Rattle.nodes.specs.Flattening.{flattening}
use Rattle.readings.specs.Readings.{Cause, class_of, verdict_of}
use Rattle.ledger.specs.Ledger.{nothing}
use Rattle.print_forms.specs.Prints.{chain_print, inline_print, tree_print}
use Rattle.runs.specs.State.{State}
use Rattle.runs.specs.Step.{Step}
use Rattle.runs.specs.declared.call.Answer.{Answer}
use Rattle.runs.specs.declared.call.Event.{Event}
use Rattle.runs.specs.declared.call.Outcome.{Outcome}
use Rattle.runs.specs.declared.call.Reading.{Reading}

-- an empty store with its number, and another store's report and basket
pub record Starts (h : Errors) (st : State) : Type 0 where
  pub apart : st.other ≡ st.number → ⊥
  pub errors : st.errors ≡ h
  pub ledger : st.ledger ≡ nothing
  pub reports : st.reports ≡ []
  pub baskets : st.baskets ≡ []
  pub chains : st.chains ≡ []

-- the events are answered one after another; so at every prefix of the list
abbrev pub Ran : {A : Type 0} → State → List (Event A) → List Answer → State → Type 0
Ran st [] [] st' = st' ≡ st
Ran st [] (a ∷ rest) st' = ⊥
Ran st (e ∷ es) [] st' = ⊥
Ran st (e ∷ es) (a ∷ rest) st' = (mid : State) × Step st e a mid × Ran mid es rest st'

-- what the questions answer of a report, by its tree in the ledger
pub record Reads (h : Errors) (accepts : Pair → Bool) (t : Tree) (r : Reading) : Type 0 where
  pub nodes : r.nodes.items ≡ flattening h t
  pub class : r.class ≡ class_of h t
  pub retry : r.retry ≡ verdict_of h accepts t
  pub can_retry : r.can_retry ≡ verdict_of h (standard CanRetry) t
  pub can_retry_lenient : r.can_retry_lenient ≡ verdict_of h (standard CanRetryLenient) t
  pub cause : Cause h t r.cause
  pub tree : r.tree.items ≡ tree_print h t
  pub chain : r.chain.items ≡ chain_print h t
  pub inline : r.inline.items ≡ inline_print h t

-- the tree of the report that a name stands for, where the ledger holds it
abbrev pub tree_named : State → Option ℕ → Option Tree
tree_named st None = None
tree_named st (Some n) = st.ledger.reports n

-- there is a reading exactly of each report that the ledger holds, and it is right
abbrev pub ReadIf : Errors → (Pair → Bool) → Option Tree → Option Reading → Type 0
ReadIf h accepts None o = o ≡ None
ReadIf h accepts (Some t) None = ⊥
ReadIf h accepts (Some t) (Some r) = Reads h accepts t r

abbrev pub AllRead : State → (Pair → Bool) → List (Option ℕ) → List (Option Reading) → Type 0
AllRead st accepts [] [] = Unit {0}
AllRead st accepts [] (o ∷ os) = ⊥
AllRead st accepts (n ∷ ns) [] = ⊥
AllRead st accepts (n ∷ ns) (o ∷ os) = ReadIf st.errors accepts (tree_named st n) o × AllRead st accepts ns os

-- Over any host and any list of events the answers are those of a run from an empty store, which ends where the host then
-- is, and the readings those of the reports that the ledger of the run holds.
pub record Law {A : Type 0} (before after : Errors) (accepts : Pair → Bool) (events : List (Event A)) (o : Outcome) : Type 0 where
  pub first : State
  pub last : State
  pub starts : Starts before first
  pub ran : Ran first events o.answers.items last
  pub ends : last.errors ≡ after
  pub readings : AllRead last accepts last.reports o.readings.items
