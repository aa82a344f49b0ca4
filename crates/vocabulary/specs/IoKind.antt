-- The sixteen io kinds with their numbers and names, and what an io error of each kind is by itself.
use Rattle.std.specs.Prelude.{ℕ, Bool, cond, ◌&&◌, List, [], ◌∷◌, None, Option, ◌==◌, nat_le}
use Rattle.std.specs.List.{slice_get}
use Rattle.classes.specs.Ascii.{ascii}
use Rattle.classes.specs.Class.{class_at}
use Rattle.classes.specs.declared.class.Class.{Class}
use Rattle.vocabulary.specs.declared.io_kind.IoRow.{IoRow}
use Rattle.vocabulary.specs.declared.io_kind.IoKind.{IoKind}
use Rattle.vocabulary.specs.declared.io_kind.IoKind.TheVariants.{Other, NotFound, PermissionDenied, Unsupported, OutOfMemory, Interrupted, TimedOut, UnexpectedEof, BrokenPipe, AddrInUse, ConnectionAborted, ConnectionReset, ConnectionRefused, WouldBlock, AlreadyExists, InvalidData}

abbrev pub io_kinds : List IoKind
io_kinds =
    Other ∷ NotFound ∷ PermissionDenied ∷ Unsupported ∷ OutOfMemory ∷ Interrupted ∷ TimedOut ∷ UnexpectedEof
    ∷ BrokenPipe ∷ AddrInUse ∷ ConnectionAborted ∷ ConnectionReset ∷ ConnectionRefused ∷ WouldBlock ∷ AlreadyExists ∷ InvalidData ∷ []

-- the io kind of a number; none above 15
abbrev pub io_kind_at : ℕ → Option IoKind
io_kind_at n = slice_get io_kinds n

abbrev pub io_number : IoKind → ℕ
io_number Other = 0
io_number NotFound = 1
io_number PermissionDenied = 2
io_number Unsupported = 3
io_number OutOfMemory = 4
io_number Interrupted = 5
io_number TimedOut = 6
io_number UnexpectedEof = 7
io_number BrokenPipe = 8
io_number AddrInUse = 9
io_number ConnectionAborted = 10
io_number ConnectionReset = 11
io_number ConnectionRefused = 12
io_number WouldBlock = 13
io_number AlreadyExists = 14
io_number InvalidData = 15

abbrev pub io_name : IoKind → List ℕ
io_name Other = ascii "Other"
io_name NotFound = ascii "NotFound"
io_name PermissionDenied = ascii "PermissionDenied"
io_name Unsupported = ascii "Unsupported"
io_name OutOfMemory = ascii "OutOfMemory"
io_name Interrupted = ascii "Interrupted"
io_name TimedOut = ascii "TimedOut"
io_name UnexpectedEof = ascii "UnexpectedEof"
io_name BrokenPipe = ascii "BrokenPipe"
io_name AddrInUse = ascii "AddrInUse"
io_name ConnectionAborted = ascii "ConnectionAborted"
io_name ConnectionReset = ascii "ConnectionReset"
io_name ConnectionRefused = ascii "ConnectionRefused"
io_name WouldBlock = ascii "WouldBlock"
io_name AlreadyExists = ascii "AlreadyExists"
io_name InvalidData = ascii "InvalidData"

-- The rule of the io table, by the kind's number. Four kinds have a class by themselves: not found, permission
-- denied, unsupported, and out of memory, which is an allocation failure.
abbrev pub io_class : ℕ → Option Class
io_class n = cond (n == 1) (class_at 9) (cond (n == 2) (class_at 7) (cond (n == 3) (class_at 5) (cond (n == 4) (class_at 3) None)))

abbrev pub between : ℕ → ℕ → ℕ → Bool
between low high n = nat_le low n && nat_le n high

-- interrupted and timed out are retried; leniently all from out of memory to connection refused
abbrev pub io_row : ℕ → IoRow
io_row n = record { class = io_class n; retry = between 5 6 n; lenient = between 4 12 n }
