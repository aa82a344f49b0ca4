use Rattle.std.proofs.Common.{ap, sym}
use Rattle.print_forms.specs.Prints.{guide}
use Rattle.prints.proofs.lines.guide.Goals as goal

pub returns-then-follows : goal.returns-then-follows
unfolding lib.Utf8.encode
returns-then-follows c = sym (ap guide c.if-follows.true)
