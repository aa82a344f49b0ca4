use Rattle.std.proofs.Common.{◌++◌, arith, Some, None, sym, subst}
use Rattle.std.proofs.lemmas.Fmt.{decimal_digit}
use Rattle.classes.specs.Ascii.{ascii}
use Rattle.buffers.specs.Printed.{Printed}
use Rattle.script_runs.proofs.Held.{row_is}
use Rattle.script_runs.specs.Working.{Rests, none}
use Rattle.scripts.proofs.Whole.{fault_put, output_within, row_put, too_long_put}
use Rattle.scripts.specs.Puts.{PutIf}
use Rattle.scripts.specs.Texts.{newline, row_text}
use Rattle.scripts.proofs.output.output.Goals as goal

pub put_reports-requires : goal.put_reports-requires
put_reports-requires c =
    let ran = c.in-Ok.ensures in
    subst (Rests c.run.new.store c.in-Ok.basket) (sym (row_is c.run.new.store c.in-Ok.basket none none ran.0 ran.2)) ran.2

pub returns-in-Some-clause-output : goal.returns-in-Some-clause-output
returns-in-Some-clause-output c =
    let ran = c.in-Ok.ensures in
    row_put c.args.script.now c.args.out.now c.put_reports.new.out c.in-Some.length ran.0 ran.1 c.told-out
    (subst (λ f. PutIf (row_text f) 0 c.args.out.now c.put_reports.new.out (Some c.in-Some.length)) (row_is c.run.new.store c.in-Ok.basket none none ran.0 ran.2) c.in-Some.ensures)

pub returns-in-None-clause-output : goal.returns-in-None-clause-output
returns-in-None-clause-output c =
    let ran = c.in-Ok.ensures in
    too_long_put c.args.script.now c.args.out.now c.put_reports.new.out c.put.new.out c.put.result ran.0 ran.1 c.told-out
    (subst (λ f. PutIf (row_text f) 0 c.args.out.now c.put_reports.new.out None) (row_is c.run.new.store c.in-Ok.basket none none ran.0 ran.2) c.in-None.ensures)
    (subst (λ d. Printed 0 c.put.result c.put_reports.new.out c.put.new.out (ascii "refused " ++ (d ++ newline))) (sym (decimal_digit 6 (omega arith))) c.put.ensures.printed)

pub returns-in-Err-clause-output : goal.returns-in-Err-clause-output
returns-in-Err-clause-output c = fault_put c.args.script.now c.args.out.now c.put_fault.new.out c.put_fault.result c.in-Err.field-0 c.in-Err.ensures c.told-out c.put_fault.ensures.short c.put_fault.ensures.printed

pub returns-in-Some-clause-within : goal.returns-in-Some-clause-within
returns-in-Some-clause-within c = output_within _ _ _ _ (returns-in-Some-clause-output c)

pub returns-in-None-clause-within : goal.returns-in-None-clause-within
returns-in-None-clause-within c = output_within _ _ _ _ (returns-in-None-clause-output c)

pub returns-in-Err-clause-within : goal.returns-in-Err-clause-within
returns-in-Err-clause-within c = output_within _ _ _ _ (returns-in-Err-clause-output c)
