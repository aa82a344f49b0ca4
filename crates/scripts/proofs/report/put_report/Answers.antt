use Rattle.std.proofs.Common.{sym, subst, ◌++◌}
use Rattle.drive_host.specs.Drive.{drive_errors}
use Rattle.print_forms.specs.Prints.{tree_print}
use Rattle.buffers.specs.Printed.{Printed}
use Rattle.scripts.proofs.Putting.{◌and◌, longer, printed_of, put_if}
use Rattle.scripts.specs.Puts.{PutIf, tree_in}
use Rattle.scripts.specs.Texts.{newline, report_text, summary_of, summary_text}
use Rattle.scripts.proofs.report.put_report.Goals as goal

pub returns-in_err-at : goal.returns-in_err-at
returns-in_err-at c =
    let t = tree_in c.args.store.now c.args.report.now in
    subst (PutIf (report_text t) c.args.at c.args.out.now c.put_tree.new.out) (sym c.from_residual.ensures)
    (longer c.args.at (tree_print drive_errors t) (newline ++ summary_text (summary_of t)) c.args.out.now c.put_tree.new.out c.in_err-at.ensures)

pub returns : goal.returns
returns c =
    let t = tree_in c.args.store.now c.args.report.now in
    let tree = printed_of c.args.at c.in_ok-at.at (tree_print drive_errors t) c.args.out.now c.put_tree.new.out c.requires.room.0 c.requires.room.1 c.put_tree.auto.out c.in_ok-at.ensures in
    let summary = subst (λ s. Printed c.put-at.result c.put_summary-at.result c.put-at.new.out c.put_summary-at.new.out (summary_text s)) c.summarize.ensures c.put_summary-at.ensures in
    put_if c.args.at c.put_summary-at.result (report_text t) c.args.out.now c.put_summary-at.new.out c.then_some.result c.requires.room.1 (tree and (c.put-at.ensures.printed and summary)) c.then_some.ensures
