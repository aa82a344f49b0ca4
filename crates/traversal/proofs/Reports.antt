-- A report gone through: its order, its number of nodes, its list.
use Rattle.std.proofs.lemmas.Bool.Decides.{nat_tests}
use Rattle.std.proofs.Common.{◌≡◌, ℕ, ◌≤◌, List, map, length, Some, None, Ok, Option, refl, ◌∙◌, arith}
use Rattle.model.specs.Host.{Errors}
use Rattle.trees.specs.Trees.{Tree}
use Rattle.nodes.specs.Flattening.{flattening, frame_list}
use Rattle.nodes.proofs.Rebuild.{flattening-length}
use Rattle.ledger.specs.Causes.{list_cause}
use Rattle.readings.specs.Readings.{errors_of, first_not_live}
use Rattle.traversal.specs.declared.order.Visit.{Visit}
use Rattle.traversal.specs.Order.{visited, Ordered}
use Rattle.traversal.specs.Spread.{BegunWithin}
use Rattle.traversal.specs.Survey.{or_else, survey_of}

-- the order of a report has its frames
pub order_is : (o : Option Tree) (order copy : List Visit) (t : Tree) → o ≡ Some t → Ordered o order → copy ≡ order → map visited copy ≡ frame_list t
order_is o order copy t e r same = grind (arith, nat_tests)

-- all errors are live where the nodes could be counted, and this is their number
pub counted : (h : Errors) (t : Tree) (n : ℕ) → Ok n ≡ survey_of h t → (first_not_live h (errors_of h t) ≡ None) × (n ≡ length (flattening h t))
counted h t n q = go (first_not_live h (errors_of h t)) q
  where
    go : (o : Option ℕ) → Ok n ≡ or_else o (length (flattening h t)) → (o ≡ None) × (n ≡ length (flattening h t))
    go None q = (refl, let y : n ≡ length (flattening h t) = cc in y)
    go (Some e) q = absurd cc

-- there is room for the nodes of the report
pub begun : (h : Errors) (order : List Visit) (total room : ℕ) (t : Tree) → map visited order ≡ frame_list t → Ok total ≡ survey_of h t → total ≤ room
    → BegunWithin h (map visited order) room total t
begun h order total room t is q le = record {
  frames = is;
  nodes = (counted h t total q).1 ∙ flattening-length h t;
  fits = le;
}

-- no cause is left where the nodes were counted and fit
pub no_cause : (h : Errors) (t : Tree) (total room : ℕ) → Ok total ≡ survey_of h t → total ≤ room → list_cause h t room ≡ None
no_cause h t total room q le = grind (arith, nat_tests)
