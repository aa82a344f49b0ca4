-- What is put down beside nodes while they are linked.
use Rattle.std.specs.Prelude.{◌≡◌, ℕ, ◌+◌, ◌<◌, ◌≤◌, Bool, cond, List, [], ◌∷◌, map, length, drop, Some, None, Option}
use Rattle.std.specs.Option.{option_or}
use Rattle.nodes.specs.declared.node.Node.{Node}
use Rattle.nodes.specs.declared.node.Plan.{Plan}
use Rattle.nodes.specs.Breadth.{is_parent}
use Rattle.nodes.specs.Check.{node_at}
use Rattle.shown_links.specs.Linked.{plan_at, plan_in, with_plan}

-- a plan with other links
abbrev pub with_links : Plan → Option ℕ → Option ℕ → Plan
with_links p first next = record { marker = p.marker; first = first; next = next; line = p.line }

-- a node without its links
abbrev pub unlinked : Node → Node
unlinked x = with_plan x (with_links (plan_in x.note) None None)

-- no node has links
pub record Unlinked (xs : List Node) : Type 0 where
  pub first : (i : ℕ) → (plan_at xs i).first ≡ None
  pub next : (i : ℕ) → (plan_at xs i).next ≡ None

-- each node stands behind its parent
pub record ParentsBefore (xs : List Node) : Type 0 where
  pub before : (i p : ℕ) → i < length xs → (node_at xs i).parent ≡ Some p → p < i

-- the first that is shown of a node at an index and of those after it beneath the same parent, given the first of those
-- beneath it and the first of those after it
abbrev pub first_shown : Bool → Option ℕ → ℕ → Option ℕ → Option ℕ
first_shown marker beneath i later = cond marker (option_or beneath later) (Some i)

-- the first that is shown of those beneath `p` in the last nodes of a list, from the index `n` on
abbrev pub first_from : ℕ → List Node → ℕ → Option ℕ
first_from n [] p = None
first_from n (x ∷ xs) p =
    cond (is_parent p x.parent) (first_shown (plan_in x.note).marker (first_from (n + 1) xs n) n (first_from (n + 1) xs p)) (first_from (n + 1) xs p)

-- the first that is shown of those beneath `p`, from the index `n` on
abbrev pub first_at : List Node → ℕ → ℕ → Option ℕ
first_at xs n p = first_from n (drop n xs) p

-- what is shown after those beneath a node
abbrev pub follower : Plan → Option ℕ
follower p = cond p.marker p.next None

-- the nodes from `n` on are linked to the first that is shown after them beneath the same parent, and all nodes to the first
-- of those from `n` on that are shown beneath them; nothing else has changed
pub record Gathered (before now : List Node) (n : ℕ) : Type 0 where
  pub same : map unlinked now ≡ map unlinked before
  pub low : 0 < n
  pub first : (p : ℕ) → p < length before → (plan_at now p).first ≡ first_at before n p
  pub next : (i p : ℕ) → n ≤ i → i < length before → (node_at before i).parent ≡ Some p → (plan_at now i).next ≡ first_at before (i + 1) p
  pub rest : (i : ℕ) → i < n → (plan_at now i).next ≡ None

-- the nodes before `n` with none beside them have what is shown after their parent, where that is a marker; nothing else
-- has changed
pub record Followed (before now : List Node) (n : ℕ) : Type 0 where
  pub same : map unlinked now ≡ map unlinked before
  pub first : (i : ℕ) → (plan_at now i).first ≡ (plan_at before i).first
  pub next : (i p : ℕ) → i < n → (node_at before i).parent ≡ Some p → (plan_at now i).next ≡ option_or (plan_at before i).next (follower (plan_at now p))
  pub root : (i : ℕ) → (node_at before i).parent ≡ None → (plan_at now i).next ≡ (plan_at before i).next
  pub rest : (i : ℕ) → n ≤ i → (plan_at now i).next ≡ (plan_at before i).next
