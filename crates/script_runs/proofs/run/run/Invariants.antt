use Rattle.std.proofs.Common.{◌+◌, ◌≤◌, length, Result}
use Rattle.trees.specs.Trees.{Forest, empty}
use Rattle.script_runs.specs.Runs.{RunsFrom}
use Rattle.script_runs.specs.Working.{Rests, row_in}
use Rattle.script_runs.specs.declared.fault.ScriptFault.{ScriptFault}
use Rattle.script_runs.proofs.run.run.Given as goal

abbrev pub invariant-loop-rest : goal.invariant-loop-rest
invariant-loop-rest l = record {
  rests : Rests l.store l.basket (row_in l.store l.basket);
  few : l.line + length l.rest ≤ 4097;
  goes_on : (answer : Result Forest ScriptFault) → RunsFrom l.line (row_in l.store l.basket) l.rest answer → RunsFrom 1 empty l.fn.script answer;
}

abbrev pub decreases-loop-rest : goal.decreases-loop-rest
decreases-loop-rest l = length l.rest
