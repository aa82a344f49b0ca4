use Rattle.std.proofs.Common.{subst, ◌∙◌}
use Rattle.buffers.specs.Printed.{Printed}
use Rattle.scripts.proofs.Putting.{◌and◌}
use Rattle.scripts.proofs.summary.put_summary.Goals as goal

pub returns : goal.returns
returns c =
    let retry = subst (Printed c.put-at-3.result c.put-at-4.result c.put-at-3.new.out c.put-at-4.new.out) (c.as_bytes.ensures.value ∙ c.yes_or_no.ensures) c.put-at-4.ensures.printed in
    let lenient = subst (Printed c.put-at-5.result c.put-at-6.result c.put-at-5.new.out c.put-at-6.new.out) (c.as_bytes-2.ensures.value ∙ c.yes_or_no-2.ensures) c.put-at-6.ensures.printed in
    c.put-at.ensures.printed and (c.put_rank-at.ensures and (c.put-at-2.ensures.printed and (c.put_number-at.ensures.printed and (c.put-at-3.ensures.printed and (retry and (c.put-at-5.ensures.printed and (lenient and c.put.ensures.printed)))))))
