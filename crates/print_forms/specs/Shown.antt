-- What is shown of a report: its nodes without the markers, and the text of each.
use Rattle.std.specs.Prelude.{ℕ, ◌+◌, Bool, cond, List, [], ◌++◌, is_some, Some, None, Option}
use Rattle.classes.specs.Ascii.{ascii}
use Rattle.vocabulary.specs.IoKind.{io_name}
use Rattle.vocabulary.specs.declared.frame_error.FrameError.{FrameError}
use Rattle.vocabulary.specs.declared.frame_error.FrameError.TheVariants.{Host}
use Rattle.vocabulary.specs.declared.io_kind.IoKind.{IoKind}
use Rattle.model.specs.Host.{Error, Errors}
use Rattle.model.specs.Judge.{kind_io}
use Rattle.trees.specs.Trees.{Tree}
use Rattle.nodes.specs.Nodes.{Content, nodes_of}
use Rattle.nodes.specs.Rows.{Rows, none, node, ◌beside◌}
use Rattle.readings.specs.Readings.{marker}

-- the nodes that are shown of a row: those beneath a marker stand in the marker's own place
abbrev pub displayed : {A : Type 0} → (A → Bool) → Rows A → Rows A
displayed marks none = none
displayed marks (node v c r) = cond (marks v) (displayed marks c beside displayed marks r) (node v (displayed marks c) (displayed marks r))

-- the nodes that are shown of a report; those at the top are the heads
abbrev pub shown : Errors → Tree → Rows Content
shown h t = displayed (marker h) (nodes_of h t)

-- how many nodes stand side by side
abbrev pub width : {A : Type 0} → Rows A → ℕ
width none = 0
width (node v c r) = width r + 1

-- the io kind of an io error that has a payload
abbrev pub payload_kind : Error → Option IoKind
payload_kind m = cond (is_some m.source) (kind_io m.kind) None

-- an io error with a payload is shown by its kind, since the payload has a line of its own; any other error by its text
abbrev pub text_or_kind : List ℕ → Option IoKind → List ℕ
text_or_kind text None = text
text_or_kind text (Some k) = ascii "I/O error (" ++ (io_name k ++ ascii ")")

-- what is shown of an error; nothing where it is not live
abbrev pub told_text : Option Error → List ℕ
told_text None = []
told_text (Some m) = text_or_kind m.text (payload_kind m)

-- what is shown of what a frame holds as its error
abbrev pub error_text : Errors → FrameError → List ℕ
error_text h (Host e) = told_text (h e)

-- the text that the host tells of an error
abbrev pub plain_text : Option Error → List ℕ
plain_text None = []
plain_text (Some m) = m.text

abbrev pub host_text : Errors → FrameError → List ℕ
host_text h (Host e) = plain_text (h e)
