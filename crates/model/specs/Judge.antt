-- Class and pair of an error, and what a list of errors comes to.
use Rattle.std.specs.Prelude.{ℕ, Bool, false, cond, not, ◌&&◌, ◌||◌, List, [], ◌∷◌, map, Some, None, Option, ◌==◌}
use Rattle.classes.specs.Class.{class_at, lesser, rank}
use Rattle.vocabulary.specs.IoKind.{io_class, io_number}
use Rattle.classes.specs.declared.class.Class.{Class}
use Rattle.vocabulary.specs.declared.io_kind.IoKind.{IoKind}
use Rattle.vocabulary.specs.declared.kind.Kind.{Kind}
use Rattle.vocabulary.specs.declared.kind.Kind.TheVariants.{Plain, Message, ClassificationMarker, TryReserveError, Io}
use Rattle.vocabulary.specs.declared.policy.Pair.{Pair}
use Rattle.model.specs.Host.{Error, Errors}
use Rattle.model.specs.Sources.{sources}

abbrev pub has_rank : ℕ → Option Class → Bool
has_rank n None = false
has_rank n (Some c) = rank c == n

-- the class that a message or a marker states
abbrev pub stated_class : Kind → Option Class
stated_class Plain = None
stated_class (Message c) = c
stated_class (ClassificationMarker c) = Some c
stated_class TryReserveError = None
stated_class (Io k) = None

abbrev pub any : (ℕ → Bool) → List ℕ → Bool
any p [] = false
any p (x ∷ xs) = p x || any p xs

-- an authentication challenge: a message or a marker whose class is Unauthenticated
abbrev pub is_challenge : Option Error → Bool
is_challenge None = false
is_challenge (Some m) = has_rank 6 (stated_class m.kind)

-- some source beneath the error is a challenge
abbrev pub challenge_beneath : Errors → ℕ → Bool
challenge_beneath h e = any (λ d. is_challenge (h d)) (sources h e)

-- the class of an io error, given whether a challenge stands beneath it: a denied permission then has none
abbrev pub io_error_class : IoKind → Bool → Option Class
io_error_class k challenged = cond (io_number k == 2 && challenged) None (io_class (io_number k))

-- the class of an error of a kind, given whether a challenge stands beneath it
abbrev pub kind_class : Kind → Bool → Option Class
kind_class Plain challenged = None
kind_class (Message c) challenged = c
kind_class (ClassificationMarker c) challenged = Some c
kind_class TryReserveError challenged = class_at 3
kind_class (Io k) challenged = io_error_class k challenged

abbrev pub kind_io : Kind → Option IoKind
kind_io Plain = None
kind_io (Message c) = None
kind_io (ClassificationMarker c) = None
kind_io TryReserveError = None
kind_io (Io k) = Some k

abbrev pub kind_pair : Kind → Bool → Pair
kind_pair k challenged = record { class = kind_class k challenged; io_kind = kind_io k }

-- the pair of an error: its class and its io kind; of a number that is not live, neither
abbrev pub told : Option Error → Bool → Pair
told None challenged = record { class = None; io_kind = None }
told (Some m) challenged = kind_pair m.kind challenged

abbrev pub pair_of : Errors → ℕ → Pair
pair_of h e = told (h e) (challenge_beneath h e)

-- the least class among pairs, or none
abbrev pub least_class : List Pair → Option Class
least_class [] = None
least_class (p ∷ ps) = lesser p.class (least_class ps)

abbrev pub any_pair : (Pair → Bool) → List Pair → Bool
any_pair accepts [] = false
any_pair accepts (p ∷ ps) = accepts p || any_pair accepts ps

abbrev pub cancelled : Pair → Bool
cancelled p = has_rank 0 p.class

-- retry under a policy: no pair is Cancelled, and the policy accepts one
abbrev pub may_retry : (Pair → Bool) → List Pair → Bool
may_retry accepts ps = not (any_pair cancelled ps) && any_pair accepts ps

abbrev pub pairs_of : Errors → List ℕ → List Pair
pairs_of h es = map (pair_of h) es
