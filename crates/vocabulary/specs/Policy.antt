-- What a retry policy is asked, and what the two standard policies accept.
use Rattle.std.specs.Prelude.{ℕ, Bool, false, ◌||◌, Some, None, Option, ◌==◌}
use Rattle.vocabulary.specs.IoKind.{between, io_number}
use Rattle.classes.specs.Class.{rank}
use Rattle.classes.specs.declared.class.Class.{Class}
use Rattle.vocabulary.specs.declared.io_kind.IoKind.{IoKind}
use Rattle.vocabulary.specs.declared.policy.Pair.{Pair}
use Rattle.vocabulary.specs.declared.policy.StandardPolicy.{StandardPolicy}
use Rattle.vocabulary.specs.declared.policy.StandardPolicy.TheVariants.{CanRetry, CanRetryLenient}

abbrev pub retryable : Option Class → Bool
retryable None = false
retryable (Some c) = rank c == 10

abbrev pub io_within : ℕ → ℕ → Option IoKind → Bool
io_within low high None = false
io_within low high (Some k) = between low high (io_number k)

-- the standard policy: the class Retryable, and io errors that were interrupted or timed out
abbrev pub can_retry : Pair → Bool
can_retry p = retryable p.class || io_within 5 6 p.io_kind

-- the lenient policy: the class Retryable, and io errors from out of memory to connection refused
abbrev pub can_retry_lenient : Pair → Bool
can_retry_lenient p = retryable p.class || io_within 4 12 p.io_kind

abbrev pub standard : StandardPolicy → Pair → Bool
standard CanRetry = can_retry
standard CanRetryLenient = can_retry_lenient
