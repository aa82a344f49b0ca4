use Rattle.std.proofs.Common.{◌≡◌, ℕ, ◌≤◌, List, ◌++◌}
use Rattle.trees.specs.Trees.{frames}
use Rattle.buffers.specs.Printed.{Printed}
use Rattle.script_runs.specs.Working.{Rests, row_in}
use Rattle.scripts.specs.Texts.{row_text}
use Rattle.scripts.proofs.report.put_reports.Given as goal

abbrev pub invariant-loop-report : goal.invariant-loop-report
invariant-loop-report l = record {
  rests : Rests l.store l.basket (row_in l.store l.basket);
  room : l.at ≤ 65536;
  put : (text : List ℕ) × Printed 0 l.at l.fn.out l.out text × (row_text (row_in l.fn.store l.fn.basket) ≡ text ++ row_text (row_in l.store l.basket));
}

abbrev pub decreases-loop-report : goal.decreases-loop-report
decreases-loop-report l = frames (row_in l.store l.basket)
