-- What a print puts down beside nodes: which of them are markers, and how those that are shown are linked.
use Rattle.std.specs.Prelude.{◌≡◌, ℕ, ◌<◌, false, List, length, Some, None, Option}
use Rattle.model.specs.Host.{Errors}
use Rattle.nodes.specs.declared.node.Node.{Node}
use Rattle.nodes.specs.declared.node.Note.{Note}
use Rattle.nodes.specs.declared.node.Note.TheVariants.{Clear, Planned, Single, Several}
use Rattle.nodes.specs.declared.node.Plan.{Plan}
use Rattle.nodes.specs.Check.{node_at}
use Rattle.nodes.specs.Nodes.{Content}
use Rattle.nodes.specs.Rows.{Rows, none, node}
use Rattle.readings.specs.Readings.{marker_in}

-- nothing is planned
abbrev pub no_plan : Plan
no_plan = record { marker = false; first = None; next = None; line = None }

-- what a note plans
abbrev pub plan_in : Note → Plan
plan_in Clear = no_plan
plan_in (Planned p) = p
plan_in (Single e) = no_plan
plan_in Several = no_plan

-- what is planned beside the node at an index
abbrev pub plan_at : List Node → ℕ → Plan
plan_at xs i = plan_in (node_at xs i).note

-- a node with another plan
abbrev pub with_plan : Node → Plan → Node
with_plan x p = record { error = x.error; place = x.place; native = x.native; parent = x.parent; note = Planned p }

-- a node that is marked, if it is a marker
abbrev pub marked : Errors → Node → Node
marked h x = with_plan x (record { marker = marker_in h x.error; first = None; next = None; line = None })

-- what a node is
abbrev pub content_of : Node → Content
content_of x = record { error = x.error; place = x.place; native = x.native }

-- the nodes of a row stand in the list, and are linked: from one the links go to the first of them, from each to the first of
-- those beneath it and to the next one beside it
abbrev pub Linked : List Node → Option ℕ → Rows Content → Type 0
Linked xs o none = o ≡ None
Linked xs o (node v c r) =
    (i : ℕ) × (o ≡ Some i) × (i < length xs) × (content_of (node_at xs i) ≡ v) × Linked xs (plan_at xs i).first c × Linked xs (plan_at xs i).next r
