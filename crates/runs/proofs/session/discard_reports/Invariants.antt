use Rattle.std.proofs.Common.{◌≡◌, ℕ, ◌<◌, None}
use Rattle.runs.specs.State.{named}
use Rattle.runs.specs.Tokens.{Keeps, reports_live, rows_live}
use Rattle.runs.proofs.session.discard_reports.Given as goal

abbrev pub invariant-loop-n : goal.invariant-loop-n
invariant-loop-n l = record {
  number : l.store.number ≡ l.initial.store.number;
  rows : (n : ℕ) → rows_live l.store n ≡ rows_live l.initial.store n;
  kept : Keeps l.store.number (reports_live l.store) (λ n. n) l.reports.tokens.items;
  gone : (k : ℕ) → k < l.n → named l.reports.tokens.items k ≡ None;
}
