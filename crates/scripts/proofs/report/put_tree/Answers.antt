use Rattle.std.proofs.Common.{sym, subst}
use Rattle.scripts.proofs.Printing.{not_put, put}
use Rattle.scripts.specs.Puts.{PutIf}
use Rattle.scripts.proofs.report.put_tree.Goals as goal

pub returns-in_err-length : goal.returns-in_err-length
returns-in_err-length c =
    subst (PutIf _ _ _ _) (sym c.from_residual.ensures)
    (not_put c.args.store.now c.args.report.now c.args.list.now c.print_tree.new.list c.args.out.now c.print_tree.new.out c.args.at c.print_tree.result c.requires.report c.told-list c.requires.room.0
    c.print_tree.ensures.reached (sym c.in_err-length.ensures.value) c.print_tree.auto.out)

pub returns : goal.returns
returns c =
    put c.args.store.now c.args.report.now c.args.list.now c.print_tree.new.list c.args.out.now c.print_tree.new.out c.args.at c.print_tree.result c.requires.report c.told-list c.requires.room.0
    c.print_tree.ensures.answer c.in_ok-length.length (sym c.in_ok-length.ensures.value) c.print_tree.auto.out
