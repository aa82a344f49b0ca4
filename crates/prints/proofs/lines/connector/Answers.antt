use Rattle.std.proofs.Common.{ap, sym}
use Rattle.print_forms.specs.Prints.{connector}
use Rattle.prints.proofs.lines.connector.Goals as goal

pub returns-then-more : goal.returns-then-more
unfolding lib.Utf8.encode
returns-then-more c = sym (ap connector c.if-more.true)

pub returns-else-more : goal.returns-else-more
unfolding lib.Utf8.encode
returns-else-more c = sym (ap connector c.if-more.false)
