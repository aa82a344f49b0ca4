use Rattle.std.proofs.Common.{is_some, ap}
use mathlib.Core.Bool.{Bool-set}
use mathlib.Core.Logic.{∥∥₁_elim}
use Rattle.rebuilding.proofs.Append.{report_there, known_row, appended}
use Rattle.rebuilding.proofs.build.TreeRow.append.Goals as goal

pub append-requires : goal.append-requires
append-requires c = record {
  begun = λ h e. ∥∥₁_elim c.requires (Bool-set _ _) (λ w. ap is_some (known_row _ _ _ _ _ e w.1.1.1.first w.1.1.1.means.rows));
  live = ∥∥₁_elim c.requires (Bool-set _ _) (λ w. report_there _ _ _ _ _ _ w.1.1.1);
}

pub returns-clause-adds : goal.returns-clause-adds
returns-clause-adds c = λ before row t w. appended before _ _ _ t _ row w _ c.append.ensures.first c.append.ensures.means
