-- The errors that were kept so far.
use Rattle.std.specs.Prelude.{◌≡◌, ℕ, ◌≤◌, List, map, length, take, drop}
use Rattle.model.specs.Host.{Errors}
use Rattle.nodes.specs.declared.node.Node.{Node}
use Rattle.chains.specs.Errors.{error_node, errors_in, unmarked}

-- of the first `i` nodes the errors that are no markers stand at the front, and they are `kept`
pub record Kept (h : Errors) (before now : List Node) (i kept : ℕ) : Type 0 where
  pub front : take kept now ≡ map error_node (unmarked h (errors_in (take i before)))
  pub count : kept ≡ length (unmarked h (errors_in (take i before)))
  pub few : kept ≤ i
  pub behind : drop i now ≡ drop i before
  pub long : length now ≡ length before
