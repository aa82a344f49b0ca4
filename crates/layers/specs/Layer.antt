-- A layer: a host made of the host below and of entries.
use Rattle.std.specs.Prelude.{ℕ, ◌+◌, List, [], Some, None, Ok, Err, Option, Result, nat_eq}
use Rattle.std.specs.Option.{option_map, option_map_or}
use Rattle.std.specs.Map.{update}
use Rattle.classes.specs.Class.{class_at}
use Rattle.vocabulary.specs.IoKind.{io_kind_at}
use Rattle.vocabulary.specs.declared.fault.HostFault.TheVariants.{NotLive}
use Rattle.vocabulary.specs.declared.fault.LayerFault.{LayerFault}
use Rattle.vocabulary.specs.declared.fault.LayerFault.TheVariants.{Host, NotNamed}
use Rattle.vocabulary.specs.declared.kind.Kind.{Kind}
use Rattle.vocabulary.specs.declared.kind.Kind.TheVariants.{ClassificationMarker, Io}
use Rattle.model.specs.Host.{Error, Errors}
use Rattle.layers.specs.Entries.{room_for}
use Rattle.layers.specs.declared.entries.Entries.{Entries}

-- the kind of a marker entry, by the rank; of an io entry, by the io kind's number
abbrev pub marker_kind : ℕ → Option Kind
marker_kind rank = option_map ClassificationMarker (class_at rank)

abbrev pub io_error_kind : ℕ → Option Kind
io_error_kind number = option_map Io (io_kind_at number)

-- the text of an error
abbrev pub told_text : Errors → ℕ → List ℕ
told_text h e = option_map_or (λ m. m.text) (h e) []

-- The answer to a wrap of an error, which is told as `o`, in a kind that `value` names: refused where the error is not
-- live, then where the value names no kind, then where there is no room; else the number of the new error.
abbrev pub wrap_answer : Option Error → ℕ → Option Kind → ℕ → Entries → Result ℕ LayerFault
wrap_answer None e k value t = Err (Host (NotLive e))
wrap_answer (Some m) e None value t = Err (NotNamed value)
wrap_answer (Some m) e (Some k) value t = room_for t

-- the new error: around `e`, with a text of its own
abbrev pub around : Kind → List ℕ → ℕ → Error
around k text e = record { kind = k; text = text; source = Some e }

-- the host after a wrap: one error more where it was granted, and else as it was
abbrev pub gained : Errors → Option Kind → List ℕ → ℕ → Result ℕ LayerFault → Errors
gained h None text e r = h
gained h (Some k) text e (Err f) = h
gained h (Some k) text e (Ok n) = update nat_eq h n (Some (around k text e))

-- how many entries there are afterwards
abbrev pub count_after : ℕ → Result ℕ LayerFault → ℕ
count_after count (Ok n) = count + 1
count_after count (Err f) = count
