use Rattle.runs.specs.Tokens.{Empty}
use Rattle.runs.proofs.table.Table.drop.Given as goal

abbrev pub invariant-loop-token : goal.invariant-loop-token
invariant-loop-token g l = Empty l.tokens.items

abbrev pub decreases-loop-token : goal.decreases-loop-token
decreases-loop-token g l = goal.left-loop-token g l
