use Rattle.std.proofs.Common.{arith}
use Rattle.layers.proofs.wrapped.IoErrorsEntryKind.kind.Goals as goal

pub returns : goal.returns
returns c = grind arith
