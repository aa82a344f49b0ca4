-- What a print of a tree answers and leaves.
use Rattle.std.specs.Prelude.{◌≡◌, ℕ, ◌≤◌, false, cond, List, ◌++◌, map, length, drop, Some, None, Ok, Err, Option, Result, nat_lt}
use Rattle.vocabulary.specs.Refusal.{print_fault_of}
use Rattle.vocabulary.specs.declared.fault.PrintFault.{PrintFault}
use Rattle.vocabulary.specs.declared.fault.PrintFault.TheVariants.{BufferTooShort}
use Rattle.vocabulary.specs.declared.fault.StoreFault.{StoreFault}
use Rattle.model.specs.Host.{Errors}
use Rattle.trees.specs.Trees.{Tree}
use Rattle.nodes.specs.declared.node.Node.{Node}
use Rattle.nodes.specs.Flattening.{flattening}
use Rattle.nodes.specs.Notes.{cleared}
use Rattle.ledger.specs.Ledger.{Ledger}
use Rattle.print_forms.specs.Layout.{report_lines}
use Rattle.print_forms.specs.Prints.{tree_print}
use Rattle.print_forms.specs.Shown.{shown}
use Rattle.store.specs.Chains.{flatten_cause}
use Rattle.store.specs.Reached.{Reached}
use Rattle.store.specs.Store.{ledger_of}
use Rattle.store.specs.Token.{Exn}
use Rattle.store.specs.declared.store.Store.{Store}
use Rattle.prints.specs.LineTexts.{LinesPlanned}

-- the lines of a tree are planned beside its nodes
pub record TreePlanned (h : Errors) (t : Tree) (nodes : List Node) (n : ℕ) : Type 0 where
  pub same : map cleared nodes ≡ flattening h t
  pub planned : LinesPlanned nodes n (report_lines false (shown h t))

-- a buffer with so much room is too short for a text
abbrev pub buffer_cause : List ℕ → ℕ → Option PrintFault
buffer_cause text room = cond (nat_lt room (length text)) (Some (BufferTooShort (length text))) None

abbrev pub buffer_cause_of : Errors → Option Tree → ℕ → Option PrintFault
buffer_cause_of h None room = None
buffer_cause_of h (Some t) room = buffer_cause (tree_print h t) room

-- the first cause: one of those why a report is not flattened, else what comes after
abbrev pub or_then : Option StoreFault → Option PrintFault → Option PrintFault
or_then None rest = rest
or_then (Some f) rest = Some (print_fault_of f)

-- why a report is not printed, with so much room in list and buffer
abbrev pub print_cause : Store → Errors → Exn → ℕ → ℕ → Option PrintFault
print_cause s h x nodes bytes = or_then (flatten_cause s h x nodes) (buffer_cause_of h ((ledger_of s).reports x.root) bytes)

-- where no cause holds the print of the report's tree stands at the front of the buffer; else the first one is told, and the
-- buffer stays
abbrev pub TreePrinted : Store → Errors → Exn → ℕ → List ℕ → List ℕ → Result ℕ PrintFault → Type 0
TreePrinted s h x nodes old new (Ok n) =
    (print_cause s h x nodes (length old) ≡ None)
    × ((t : Tree) → (ledger_of s).reports x.root ≡ Some t → (n ≡ length (tree_print h t)) × (new ≡ tree_print h t ++ drop n old))
TreePrinted s h x nodes old new (Err f) = (print_cause s h x nodes (length old) ≡ Some f) × (new ≡ old)

-- the flattening of a tree at the front of a list
abbrev pub flattened_onto : Errors → Option Tree → List Node → List Node
flattened_onto h None list = list
flattened_onto h (Some t) list = flattening h t ++ drop (length (flattening h t)) list

abbrev pub unless_refused : Option StoreFault → List Node → List Node → List Node
unless_refused None after before = after
unless_refused (Some f) after before = before

-- the list after a print: the flattening of the report, where it is flattened
abbrev pub list_after : Store → Errors → Exn → List Node → List Node
list_after s h x list = unless_refused (flatten_cause s h x (length list)) (flattened_onto h ((ledger_of s).reports x.root) list) list

-- Of a store that calls have led to, by the ledger that they tell: a report that the ledger holds is printed, by its tree
-- there, where list and buffer are long enough.
abbrev pub TreeByLedger : Store → Errors → Exn → List Node → List Node → List ℕ → List ℕ → Result ℕ PrintFault → Type 0
TreeByLedger s h x list list' old new r = (l : Ledger) (t : Tree) → Reached h s l → x.store ≡ s.number → l.reports x.root ≡ Some t → length (flattening h t) ≤ length list → length (tree_print h t) ≤ length old
    → (r ≡ Ok (length (tree_print h t))) × (new ≡ tree_print h t ++ drop (length (tree_print h t)) old) × (list' ≡ flattening h t ++ drop (length (flattening h t)) list)
