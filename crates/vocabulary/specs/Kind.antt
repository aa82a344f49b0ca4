-- The five kinds of error, and the numbers by which a record names one.
use Rattle.std.specs.Prelude.{ℕ, Bool, true, false, cond, List, Some, None, Option, ◌==◌, nat_le}
use Rattle.std.specs.Option.{option_map}
use Rattle.classes.specs.Ascii.{ascii}
use Rattle.classes.specs.Class.{class_at}
use Rattle.vocabulary.specs.IoKind.{io_kind_at}
use Rattle.vocabulary.specs.declared.kind.Kind.{Kind}
use Rattle.vocabulary.specs.declared.kind.Kind.TheVariants.{Plain, Message, ClassificationMarker, TryReserveError, Io}

abbrev pub kind_number : Kind → ℕ
kind_number Plain = 0
kind_number (Message c) = 1
kind_number (ClassificationMarker c) = 2
kind_number TryReserveError = 3
kind_number (Io k) = 4

abbrev pub kind_name : Kind → List ℕ
kind_name Plain = ascii "plain"
kind_name (Message c) = ascii "Message"
kind_name (ClassificationMarker c) = ascii "ClassificationMarker"
kind_name TryReserveError = ascii "TryReserveError"
kind_name (Io k) = ascii "io::Error"

-- a message's class by its number: 255 is a message without one, and every other number has to be a rank
abbrev pub message_at : ℕ → Option Kind
message_at d = cond (d == 255) (Some (Message None)) (option_map (λ c. Message (Some c)) (class_at d))

-- the kind of a number, with the number beside it that says the class or the io kind, where the kind has one
abbrev pub kind_at : ℕ → ℕ → Option Kind
kind_at n d =
    cond (n == 0) (Some Plain)
    (cond (n == 1) (message_at d)
    (cond (n == 2) (option_map ClassificationMarker (class_at d))
    (cond (n == 3) (Some TryReserveError)
    (cond (n == 4) (option_map Io (io_kind_at d)) None))))

-- which of the two numbers names nothing, where they name no kind
abbrev pub unnamed : ℕ → ℕ → ℕ
unnamed n d = cond (nat_le n 4) d n

-- messages and reservation failures never have a source
abbrev pub sourceless : Kind → Bool
sourceless Plain = false
sourceless (Message c) = true
sourceless (ClassificationMarker c) = false
sourceless TryReserveError = true
sourceless (Io k) = false

abbrev pub is_marker : Kind → Bool
is_marker Plain = false
is_marker (Message c) = false
is_marker (ClassificationMarker c) = true
is_marker TryReserveError = false
is_marker (Io k) = false
