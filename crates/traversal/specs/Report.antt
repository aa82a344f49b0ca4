-- What is left in a list that is to take the nodes of a report.
use Rattle.std.specs.Prelude.{◌≡◌, ℕ, List, ◌++◌, length, drop, Some, None, Ok, Err, Result}
use Rattle.vocabulary.specs.declared.fault.StoreFault.{StoreFault}
use Rattle.model.specs.Host.{Errors}
use Rattle.trees.specs.Trees.{Tree}
use Rattle.nodes.specs.declared.node.Node.{Node}
use Rattle.nodes.specs.Flattening.{flattening}
use Rattle.ledger.specs.Causes.{list_cause}

-- the flattening of the report stands at the front of the list, and its length is answered; or nothing changes
abbrev pub ListedInto : Errors → Tree → List Node → List Node → Result ℕ StoreFault → Type 0
ListedInto h t before after (Ok n) = (list_cause h t (length before) ≡ None) × (n ≡ length (flattening h t)) × (after ≡ flattening h t ++ drop n before)
ListedInto h t before after (Err f) = (list_cause h t (length before) ≡ Some f) × (after ≡ before)
