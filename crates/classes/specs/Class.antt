-- The eleven classes, their order and their ranks.
use Rattle.std.specs.Prelude.{ℕ, cond, List, [], ◌∷◌, Some, None, Option, nat_lt}
use Rattle.std.specs.List.{slice_get}
use Rattle.classes.specs.Ascii.{ascii}
use Rattle.classes.specs.declared.class.Class.{Class}
use Rattle.classes.specs.declared.class.Class.TheVariants.{Cancelled, Corruption, ResourceExhaustion, Validation, Unsupported, Unauthenticated, PermissionDenied, Conflict, NotFound, Retryable}
use Rattle.classes.specs.declared.class.ResourceExhaustionKind.{ResourceExhaustionKind}
use Rattle.classes.specs.declared.class.ResourceExhaustionKind.TheVariants.{AllocationLimit, AllocationFailure}

-- the most urgent remedy first
abbrev pub classes : List Class
classes =
    Cancelled ∷ Corruption ∷ ResourceExhaustion AllocationLimit ∷ ResourceExhaustion AllocationFailure ∷ Validation ∷ Unsupported
    ∷ Unauthenticated ∷ PermissionDenied ∷ Conflict ∷ NotFound ∷ Retryable ∷ []

-- the class of a rank; none above 10
abbrev pub class_at : ℕ → Option Class
class_at n = slice_get classes n

abbrev pub rank : Class → ℕ
rank Cancelled = 0
rank Corruption = 1
rank (ResourceExhaustion AllocationLimit) = 2
rank (ResourceExhaustion AllocationFailure) = 3
rank Validation = 4
rank Unsupported = 5
rank Unauthenticated = 6
rank PermissionDenied = 7
rank Conflict = 8
rank NotFound = 9
rank Retryable = 10

abbrev pub exhaustion_name : ResourceExhaustionKind → List ℕ
exhaustion_name AllocationLimit = ascii "AllocationLimit"
exhaustion_name AllocationFailure = ascii "AllocationFailure"

-- the two kinds of resource exhaustion go by the kind's name
abbrev pub class_name : Class → List ℕ
class_name Cancelled = ascii "Cancelled"
class_name Corruption = ascii "Corruption"
class_name (ResourceExhaustion k) = exhaustion_name k
class_name Validation = ascii "Validation"
class_name Unsupported = ascii "Unsupported"
class_name Unauthenticated = ascii "Unauthenticated"
class_name PermissionDenied = ascii "PermissionDenied"
class_name Conflict = ascii "Conflict"
class_name NotFound = ascii "NotFound"
class_name Retryable = ascii "Retryable"

-- the lesser of two classes, where no class counts as the greatest
abbrev pub lesser : Option Class → Option Class → Option Class
lesser None b = b
lesser (Some x) None = Some x
lesser (Some x) (Some y) = cond (nat_lt (rank y) (rank x)) (Some y) (Some x)
