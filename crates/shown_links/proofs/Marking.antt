-- The turn in which a node is marked.
use Rattle.std.proofs.Common.{◌≡◌, ℕ, ◌+◌, ◌<◌, Bool, None, List, map, length, set, take, drop, ◌++◌, ap, ◌∙◌}
use Rattle.model.specs.Host.{Errors}
use Rattle.nodes.specs.declared.node.Node.{Node}
use Rattle.nodes.specs.Check.{blank, node_at}
use Rattle.nodes.proofs.Mapping.{changed_more}
use Rattle.readings.specs.Readings.{marker_in}
use Rattle.shown_links.specs.Linked.{marked, with_plan}

pub marked_more : (h : Errors) (xs now : List Node) (i : ℕ) (b : Bool) → b ≡ marker_in h (node_at now i).error → now ≡ map (marked h) (take i xs) ++ drop i xs → i < length xs
    → set now i (with_plan (node_at now i) (record { marker = b; first = None; next = None; line = None })) ≡ map (marked h) (take (i + 1) xs) ++ drop (i + 1) xs
marked_more h xs now i b is q lt =
    ap (λ (m : Bool). set now i (with_plan (node_at now i) (record { marker = m; first = None; next = None; line = None }))) is ∙ changed_more (marked h) blank xs now i q lt
