-- A new root is over the reports that are joined to it.
use Rattle.std.proofs.Common.{true, arith}
use Rattle.std.proofs.lemmas.Grind.{common_steps}
use Rattle.ledger.specs.Causes.{is_row}
use Rattle.ledger.specs.Ledger.{chained, chained_all, raised, raised_all}
use Rattle.store.specs.Roots.{Raises, differ, is_report}

pub report_raises : Raises is_report differ chained raised
report_raises before mid r e p n v f b = grind (arith, common_steps)

pub row_raises : Raises is_row (λ b x. true) chained_all raised_all
row_raises before mid r e p n v f b = grind (arith, common_steps)
