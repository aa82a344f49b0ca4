-- What each event is answered, and what it leaves.
use Rattle.std.specs.Prelude.{◌≡◌, ℕ, ◌+◌, ◌<◌, ◌≤◌, IfSome, Bool, true, is_some, not, ◌&&◌, List, length, slice_set, Some, None, Option, ◌==◌}
use Rattle.vocabulary.specs.declared.fault.StoreFault.{StoreFault}
use Rattle.vocabulary.specs.declared.frame_error.FrameError.TheVariants.{Host}
use Rattle.model.specs.Host.{Errors, Extends}
use Rattle.trees.specs.Listings.{children_of}
use Rattle.trees.specs.Trees.{Tree, empty, frames}
use Rattle.nodes.specs.declared.node.Node.{Node}
use Rattle.nodes.specs.Begins.{Flattens}
use Rattle.nodes.specs.Flattening.{flattening}
use Rattle.ledger.specs.Causes.{frame_cause, held, is_basket, is_held}
use Rattle.ledger.specs.Ledger.{Ledger, Fresh, Known, chained, chained_all, collected, discarded, discarded_all, drained, first_of, first_root, free, made, raised, raised_all, rebuilt, rest_of, row_of, taken}
use Rattle.store.specs.Chains.{Unbuilt, list_cause_of}
use Rattle.runs.specs.State.{State, Handle, after, and_named, basket_of, gone, named, renamed, report_of, with_errors}
use Rattle.runs.specs.declared.call.Answer.{Answer}
use Rattle.runs.specs.declared.call.Answer.TheVariants as answer
use Rattle.runs.specs.declared.call.Call.{Call}
use Rattle.runs.specs.declared.call.Call.TheVariants.{New, Raise, RaiseAll, Chain, ChainAll, Basket, Collect, Take, DrainChildren, Discard, DiscardBasket, IntoChain, ChainOf, IntoExn}
use Rattle.runs.specs.declared.call.Event.{Event}
use Rattle.runs.specs.declared.call.Event.TheVariants as event

-- of something that is there
abbrev pub Of : {A : Type 0} → Option A → (A → Type 0) → Type 0
Of None P = ⊥
Of (Some a) P = P a

-- what a call names is there; a second report is another than the first
abbrev pub Named : State → Call → Type 0
Named st (New e p) = Unit {0}
Named st (Raise x e p) = Of (report_of st x) (λ _. Unit {0})
Named st (RaiseAll b e p) = Of (basket_of st b) (λ _. Unit {0})
Named st (Chain x y) = Of (report_of st x) (λ _. Of (report_of st y) (λ _. x ≡ y → ⊥))
Named st (ChainAll x b) = Of (report_of st x) (λ _. Of (basket_of st b) (λ _. Unit {0}))
Named st Basket = Unit {0}
Named st (Collect b x) = Of (basket_of st b) (λ _. Of (report_of st x) (λ _. Unit {0}))
Named st (Take b) = Of (basket_of st b) (λ _. Unit {0})
Named st (DrainChildren x) = Of (report_of st x) (λ _. Unit {0})
Named st (Discard x) = Of (report_of st x) (λ _. Unit {0})
Named st (DiscardBasket b) = Of (basket_of st b) (λ _. Unit {0})
Named st (IntoChain x room) = Of (report_of st x) (λ _. Unit {0})
Named st (ChainOf xs) = Unit {0}
Named st (IntoExn c) = Of (named st.chains c) (λ _. Unit {0})

-- a report, or a basket, is the store's, and live
abbrev pub report_held : State → Handle ℕ → Bool
report_held st x = is_held st.number st.ledger x.store x.root

abbrev pub basket_held : State → Handle (Option ℕ) → Bool
basket_held st b = is_basket st.number st.ledger b.store b.root

-- why a list is not built into a tree, or that it is: some tree flattens to it, and there are frames for it
abbrev pub BuildCause : State → List Node → Option StoreFault → Type 0
BuildCause st xs None = (t : Tree) × Flattens st.errors xs t × (frames t.children + 1 ≤ free st.ledger)
BuildCause st xs (Some f) = Unbuilt st.ledger st.errors xs f

-- the first cause that holds of ledger, host and arguments, or none
abbrev pub Cause : State → Call → Option StoreFault → Type 0
Cause st (New e p) o = o ≡ frame_cause st.ledger st.errors e
Cause st (Raise x e p) o = Of (report_of st x) (λ x. o ≡ held (report_held st x) (frame_cause st.ledger st.errors e))
Cause st (RaiseAll b e p) o = Of (basket_of st b) (λ b. o ≡ held (basket_held st b) (frame_cause st.ledger st.errors e))
Cause st (Chain x y) o = Of (report_of st x) (λ x. Of (report_of st y) (λ y. o ≡ held (report_held st x && report_held st y && not (x.root == y.root)) None))
Cause st (ChainAll x b) o = Of (report_of st x) (λ x. Of (basket_of st b) (λ b. o ≡ held (report_held st x && basket_held st b) None))
Cause st Basket o = o ≡ None
Cause st (Collect b x) o = Of (basket_of st b) (λ b. Of (report_of st x) (λ x. o ≡ held (basket_held st b && report_held st x) None))
Cause st (Take b) o = Of (basket_of st b) (λ b. o ≡ held (basket_held st b) None)
Cause st (DrainChildren x) o = Of (report_of st x) (λ x. o ≡ held (report_held st x) None)
Cause st (Discard x) o = Of (report_of st x) (λ x. o ≡ held (report_held st x) None)
Cause st (DiscardBasket b) o = Of (basket_of st b) (λ b. o ≡ held (basket_held st b) None)
Cause st (IntoChain x room) o = Of (report_of st x) (λ x. o ≡ held (report_held st x) (list_cause_of st.errors (st.ledger.reports x.root) room))
Cause st (ChainOf xs) o = o ≡ None
Cause st (IntoExn c) o = Of (named st.chains c) (λ xs. BuildCause st xs o)

-- the number of a frame by which nothing was known
abbrev pub NewRoot : Ledger → ℕ → Type 0
NewRoot l n = (n < 1024) × Fresh l n

-- what a granted call answers and leaves; a report's own chain is that of its tree whatever the host gains; the root of a
-- new report and the number by which a row is then known are not determined, but nothing was known by them
abbrev pub Grants : State → Call → Answer → State → Type 0
Grants st (New e p) (answer.Report n) st' =
    NewRoot st.ledger n × (st' ≡ after st (made st.ledger (Host e) p n) (and_named st.reports n) st.baskets st.chains)
Grants st (Raise x e p) (answer.Report n) st' = Of (report_of st x) (λ r.
    NewRoot st.ledger n × (st' ≡ after st (raised st.ledger r.root (Host e) p n) (and_named (gone st.reports x) n) st.baskets st.chains))
Grants st (RaiseAll b e p) (answer.Report n) st' = Of (basket_of st b) (λ r.
    NewRoot st.ledger n × (st' ≡ after st (raised_all st.ledger r.root (Host e) p n) (and_named st.reports n) (gone st.baskets b) st.chains))
Grants st (Chain x y) answer.Done st' = Of (report_of st x) (λ r. Of (report_of st y) (λ s.
    st' ≡ after st (chained st.ledger r.root s.root) (gone st.reports y) st.baskets st.chains))
Grants st (ChainAll x b) answer.Done st' = Of (report_of st x) (λ r. Of (basket_of st b) (λ s.
    st' ≡ after st (chained_all st.ledger r.root s.root) st.reports (gone st.baskets b) st.chains))
Grants st Basket (answer.Basket n) st' = (n ≡ None) × (st' ≡ after st st.ledger st.reports (and_named st.baskets None) st.chains)
Grants st (Collect b x) answer.Done st' = Of (basket_of st b) (λ s. Of (report_of st x) (λ r.
    st' ≡ after st (collected st.ledger s.root r.root) (gone st.reports x) (renamed st.baskets b (Some (Some (first_root s.root r.root)))) st.chains))
Grants st (Take b) (answer.Taken n next) st' = Of (basket_of st b) (λ s.
    (s.root ≡ Some n) × (is_some (first_of (row_of st.ledger s.root)) ≡ true) × (st.ledger.reports n ≡ None) × IfSome next (λ n. n < 1024) × Known st.ledger (rest_of (row_of st.ledger s.root)) next
    × (st' ≡ after st (taken st.ledger n next) (and_named st.reports n) (renamed st.baskets b (Some next)) st.chains))
Grants st (Take b) answer.Nothing st' = Of (basket_of st b) (λ s. (row_of st.ledger s.root ≡ empty) × (st' ≡ st))
Grants st (DrainChildren x) (answer.Basket head) st' = Of (report_of st x) (λ r.
    IfSome head (λ n. n < 1024) × Known st.ledger (children_of (st.ledger.reports r.root)) head
    × (st' ≡ after st (drained st.ledger r.root head) st.reports (and_named st.baskets head) st.chains))
Grants st (Discard x) answer.Done st' = Of (report_of st x) (λ r. st' ≡ after st (discarded st.ledger r.root) (gone st.reports x) st.baskets st.chains)
Grants st (DiscardBasket b) answer.Done st' = Of (basket_of st b) (λ s. st' ≡ after st (discarded_all st.ledger s.root) st.reports (gone st.baskets b) st.chains)
Grants st (IntoChain x room) (answer.Chain n) st' = Of (report_of st x) (λ r. Of (st.ledger.reports r.root) (λ t.
    (n ≡ length (flattening st.errors t))
    × ((h : Errors) → Extends st.errors h → Flattens h (flattening st.errors t) t)
    × (st' ≡ after st (discarded st.ledger r.root) (gone st.reports x) st.baskets (and_named st.chains (flattening st.errors t)))))
Grants st (ChainOf xs) (answer.Chain n) st' = (n ≡ length xs.items) × (st' ≡ after st st.ledger st.reports st.baskets (and_named st.chains xs.items))
Grants st (IntoExn c) (answer.Report n) st' = Of (named st.chains c) (λ xs. (t : Tree) × Flattens st.errors xs t × ((u : Tree) → flattening st.errors u ≡ xs → u ≡ t)
    × NewRoot st.ledger n × (st' ≡ after st (rebuilt st.ledger t n) (and_named st.reports n) st.baskets (slice_set st.chains c None)))
Grants st c a st' = ⊥

-- a call is turned down with the first cause that holds and then changes nothing, and else it is granted
abbrev pub CallStep : State → Call → Answer → State → Type 0
CallStep st c answer.Missing st' = (Named st c → ⊥) × (st' ≡ st)
CallStep st c (answer.Refused f) st' = Named st c × Cause st c (Some f) × (st' ≡ st)
CallStep st c a st' = Named st c × Cause st c None × Grants st c a st'

-- what the host tells may grow
abbrev pub GainStep : State → Answer → State → Type 0
GainStep st (answer.Gained r) st' = (h : Errors) × Extends st.errors h × (st' ≡ with_errors st h)
GainStep st a st' = ⊥

abbrev pub Step : {A : Type 0} → State → Event A → Answer → State → Type 0
Step st (event.Call c) a st' = CallStep st c a st'
Step st (event.Gain x) a st' = GainStep st a st'
