use Rattle.std.proofs.Common.{◌≡◌, ◌≤◌, vec_len, vec_capacity}
use Rattle.runs.specs.Tokens.{Empty}
use Rattle.runs.proofs.table.Table.new.Given as goal

abbrev pub invariant-loop : goal.invariant-loop
invariant-loop g l = record { len : vec_len l.tokens ≡ l.counter; room : 1024 ≤ vec_capacity l.tokens; empty : Empty l.tokens.items }
