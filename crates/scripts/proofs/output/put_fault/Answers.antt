use Rattle.std.proofs.Common.{decimal, subst, arith}
use Rattle.buffers.specs.Printed.{Printed}
use Rattle.scripts.proofs.Whole.{fault_short}
use Rattle.scripts.proofs.Putting.{◌and◌}
use Rattle.scripts.proofs.output.put_fault.Goals as goal

pub returns-clause-printed : goal.returns-clause-printed
returns-clause-printed c =
    let number = subst (λ n. Printed c.put-at-2.result c.put_number-at-2.result c.put-at-2.new.out c.put_number-at-2.new.out (decimal n)) c.number.ensures c.put_number-at-2.ensures.printed in
    c.put-at.ensures.printed and (c.put_number-at.ensures.printed and (c.put-at-2.ensures.printed and (number and c.put.ensures.printed)))

pub returns-clause-short : goal.returns-clause-short
returns-clause-short c = fault_short c.args.line c.args.fault (omega (arith, c.ranges.line.fits))
