use Rattle.std.proofs.Common.{length}
use Rattle.cases.specs.Valid.{IsText}
use Rattle.cases.proofs.Text.{Unread}
use Rattle.cases.proofs.reading.text.Given as goal

abbrev pub invariant-loop-byte : goal.invariant-loop-byte
invariant-loop-byte l = Unread l.fn.bytes l.text.items l.rest × IsText l.text.items

abbrev pub decreases-loop-byte : goal.decreases-loop-byte
decreases-loop-byte l = length l.rest
