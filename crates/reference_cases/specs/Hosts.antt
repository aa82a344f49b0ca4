-- What a layer is after its first entry, by the contract of a layer's `wrap`.
use Rattle.std.specs.Prelude.{ℕ, List, [], Option, Result}
use Rattle.vocabulary.specs.declared.fault.LayerFault.{LayerFault}
use Rattle.vocabulary.specs.declared.kind.Kind.{Kind}
use Rattle.model.specs.Host.{Errors}
use Rattle.drive_host.specs.Drive.{drive_errors}
use Rattle.layers.specs.Entries.{layered, layered_span}
use Rattle.layers.specs.Layer.{gained, io_error_kind, marker_kind, told_text, wrap_answer}
use Rattle.layers.specs.declared.entries.Entries.{Entries}

-- a host as contracts see it: its meaning and its span
pub record HostModel : Type 0 where
  pub errors : Errors
  pub span : ℕ

-- the drive host, with no layer around it
abbrev pub drive_alone : HostModel
drive_alone = record { errors = drive_errors; span = 48 }

-- a new layer around a host: its entries, of which there are none, and its meaning
abbrev pub no_entries : HostModel → Entries
no_entries h = record { below = h.span; items = record { items = [] } }

abbrev pub new_layer : HostModel → Errors
new_layer h = layered h.errors (no_entries h)

-- what it answers to a wrap of an error in the kind that a number names
abbrev pub first_answer : HostModel → ℕ → Option Kind → ℕ → Result ℕ LayerFault
first_answer h e kind number = wrap_answer (new_layer h e) e kind number (no_entries h)

-- and what it is then, where the new error has the text
abbrev pub after_first : HostModel → ℕ → Option Kind → ℕ → List ℕ → HostModel
after_first h e kind number text = record { errors = gained (new_layer h) kind text e (first_answer h e kind number); span = layered_span (no_entries h) }

-- so the marker layer: its answer to a marker of a rank around an error, and what it is then
abbrev pub mark_answer : HostModel → ℕ → ℕ → Result ℕ LayerFault
mark_answer h e rank = first_answer h e (marker_kind rank) rank

abbrev pub marked : HostModel → ℕ → ℕ → HostModel
marked h e rank = after_first h e (marker_kind rank) rank []

-- and the io layer, with an io error of a kind around an error
abbrev pub io_answer : HostModel → ℕ → ℕ → Result ℕ LayerFault
io_answer h e number = first_answer h e (io_error_kind number) number

abbrev pub io_wrapped : HostModel → ℕ → ℕ → HostModel
io_wrapped h e number = after_first h e (io_error_kind number) number (told_text (new_layer h) e)
