use mathlib.Core.Logic.{∥∥₁_elim, ∥∥₁_map}
use native.Mathlib.Bridge.{le_prop}
use Rattle.std.proofs.Common.{false}
use Rattle.print_forms.specs.Layout.{report_lines}
use Rattle.print_forms.specs.Shown.{shown}
use Rattle.prints.proofs.Planned.{begun, lines_put, root_put}
use Rattle.prints.proofs.report.put_tree.Goals as goal

pub bounds-nodes-0 : goal.bounds-nodes-0
bounds-nodes-0 g c = ∥∥₁_elim c.requires le_prop (λ r. begun _ r.0 _ _ r.1)

pub returns-then-count-eq0 : goal.returns-then-count-eq0
returns-then-count-eq0 g c = λ t p. root_put _ t _ _ p c.if-count-eq0.true _ _ _ c.put_text.ensures.printed

pub put_lines-requires : goal.put_lines-requires
put_lines-requires g c = ∥∥₁_map c.requires (λ r. (report_lines false (shown _ r.0), r.1.planned))

pub returns : goal.returns
returns g c = λ t p. lines_put _ t _ _ p c.if-count-eq0.false _ _ _ (c.put_lines.ensures _ p.planned)
