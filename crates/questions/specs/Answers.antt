-- What questions on reports and chains answer.
use Rattle.std.specs.Prelude.{◌≡◌, cond, List, Some, None, Ok, Err, Option, Result}
use Rattle.vocabulary.specs.declared.fault.StoreFault.{StoreFault}
use Rattle.vocabulary.specs.declared.frame_error.FrameError.{FrameError}
use Rattle.readings.specs.Readings.{Cause}
use Rattle.vocabulary.specs.declared.fault.StoreFault.TheVariants.{NotHeld}
use Rattle.model.specs.Host.{Errors}
use Rattle.trees.specs.Trees.{Tree}
use Rattle.nodes.specs.declared.node.Node.{Node}
use Rattle.nodes.specs.Begins.{Flat, Flattens}
use Rattle.ledger.specs.Causes.{live_cause}
use Rattle.ledger.specs.Ledger.{Ledger}
use Rattle.checks.specs.Flattening.{Refused}
use Rattle.store.specs.Calls.{report_held}
use Rattle.store.specs.Reached.{Reached}
use Rattle.store.specs.Store.{ledger_of}
use Rattle.store.specs.Token.{Exn}
use Rattle.store.specs.declared.store.Store.{Store}

-- a value where no cause holds, else the first cause
abbrev pub unless_caused : {A : Type 0} → Option StoreFault → A → Result A StoreFault
unless_caused None a = Ok a
unless_caused (Some fault) a = Err fault

-- what is asked of a tree whose errors are all live
abbrev pub tree_answer : {A : Type 0} → Errors → Option Tree → (Tree → A) → Result A StoreFault
tree_answer h None f = Err NotHeld
tree_answer h (Some t) f = unless_caused (live_cause h t None) (f t)

-- what is asked of the tree of a report that the store holds
abbrev pub report_answer : {A : Type 0} → Store → Errors → Exn → (Tree → A) → Result A StoreFault
report_answer s h x f = cond (report_held s x) (tree_answer h ((ledger_of s).reports x.root) f) (Err NotHeld)

-- Of a store that calls have led to, by the ledger that they tell: the answer is given, and not refused, for every report
-- that the ledger holds, by its tree there.
abbrev pub GivenByLedger : {A : Type 0} → Store → Errors → Exn → (Tree → A) → Result A StoreFault → Type 0
GivenByLedger s h x f r = (l : Ledger) (t : Tree) → Reached h s l → x.store ≡ s.number → l.reports x.root ≡ Some t → r ≡ Ok (f t)

-- the same of the probable cause, in the terms of the subject
abbrev pub CauseByLedger : Store → Errors → Exn → Result FrameError StoreFault → Type 0
CauseByLedger s h x r = (l : Ledger) (t : Tree) → Reached h s l → x.store ≡ s.number → l.reports x.root ≡ Some t → (e : FrameError) × (r ≡ Ok e) × Cause h t e

-- what is asked of the tree of a chain: refused exactly where its nodes are no flattening, with the first bad index
abbrev pub ChainAnswer : {A : Type 0} → Errors → List Node → (Tree → A) → Result A StoreFault → Type 0
ChainAnswer h xs f (Ok a) = Flat h xs × ((t : Tree) → Flattens h xs t → a ≡ f t)
ChainAnswer h xs f (Err fault) = Refused h xs fault
