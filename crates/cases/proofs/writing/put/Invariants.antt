use Rattle.std.proofs.Common.{◌≡◌, ◌++◌, take}
use Rattle.cases.specs.Words.{word_text}
use Rattle.cases.specs.Spelling.{operands_text}
use Rattle.cases.proofs.writing.put.Given as goal

abbrev pub invariant-loop-operand : goal.invariant-loop-operand
invariant-loop-operand l = l.out.items ≡ l.fn.out.items ++ (word_text l.fn.first ++ operands_text (take l.operand-index l.operands))
