use Rattle.std.proofs.Common.{List, take}
use Rattle.nodes.specs.Nodes.{Content}
use Rattle.print_forms.specs.Layout.{Line}
use Rattle.print_forms.specs.Prints.{lines_text}
use Rattle.buffers.specs.Printed.{Printed}
use Rattle.prints.specs.LineTexts.{LinesPlanned}
use Rattle.prints.proofs.lines.put_lines.Given as goal

abbrev pub invariant-loop-index : goal.invariant-loop-index
invariant-loop-index g l = (xs : List (Line Content)) → LinesPlanned l.nodes l.count xs → Printed 0 l.at l.initial.out l.out (lines_text (g.H.Host.errors l.host) (take l.index xs))
