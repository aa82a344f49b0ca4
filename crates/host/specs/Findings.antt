-- What some pairs come to under a policy.
use Rattle.std.specs.Prelude.{ℕ, Bool, false, not, ◌&&◌, ◌||◌, List, Some, None, Option, ◌==◌}
use Rattle.classes.specs.Class.{lesser}
use Rattle.vocabulary.specs.IoKind.{io_number}
use Rattle.vocabulary.specs.declared.io_kind.IoKind.{IoKind}
use Rattle.vocabulary.specs.declared.policy.Pair.{Pair}
use Rattle.model.specs.Host.{Errors}
use Rattle.model.specs.Judge.{any_pair, has_rank, least_class, pairs_of}
use Rattle.model.specs.Sources.{chain}
use Rattle.host.specs.declared.judge.Findings.{Findings}

-- the least class among the pairs, and whether the policy accepts one of them
abbrev pub findings_of : (Pair → Bool) → List Pair → Findings
findings_of accepts ps = record { class = least_class ps; accepted = any_pair accepts ps }

-- findings joined with what some pairs come to
abbrev pub findings_with : (Pair → Bool) → Findings → List Pair → Findings
findings_with accepts f ps = record { class = lesser f.class (least_class ps); accepted = f.accepted || any_pair accepts ps }

-- the pairs of an error and of all sources beneath it
abbrev pub chain_pairs : Errors → ℕ → List Pair
chain_pairs h e = pairs_of h (chain h e)

-- a denied permission
abbrev pub denies : Option IoKind → Bool
denies None = false
denies (Some k) = io_number k == 2

abbrev pub is_denied : Pair → Bool
is_denied p = denies p.io_kind

-- the verdict that findings give
abbrev pub retries : Findings → Bool
retries f = not (has_rank 0 f.class) && f.accepted
