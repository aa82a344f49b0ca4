use Rattle.std.proofs.Common.{◌≡◌}
use Rattle.trees.specs.Trees.{◌then◌, frames}
use Rattle.store.specs.Store.{ledger_of}
use Rattle.script_runs.specs.Working.{WorksTwo, row_in}
use Rattle.script_runs.proofs.moves.move_all.Given as goal

abbrev pub invariant-loop-report : goal.invariant-loop-report
invariant-loop-report l = record {
  number : l.store.number ≡ l.fn.store.number;
  works : WorksTwo l.store l.basket l.from (ledger_of l.fn.store).reports (row_in l.store l.basket) (row_in l.store l.from);
  moved : (row_in l.store l.basket then row_in l.store l.from) ≡ (row_in l.fn.store l.fn.basket then row_in l.fn.store l.fn.from);
}

abbrev pub decreases-loop-report : goal.decreases-loop-report
decreases-loop-report l = frames (row_in l.store l.from)
