use Rattle.std.proofs.Common.{◌≡◌, ℕ, ◌<◌, Some, None}
use Rattle.runs.specs.State.{named}
use Rattle.runs.specs.Tokens.{Keeps, rows_live}
use Rattle.runs.proofs.session.discard_rows.Given as goal

abbrev pub invariant-loop-n : goal.invariant-loop-n
invariant-loop-n l = record {
  kept : Keeps l.store.number (rows_live l.store) Some l.rows.tokens.items;
  gone : (k : ℕ) → k < l.n → named l.rows.tokens.items k ≡ None;
}
