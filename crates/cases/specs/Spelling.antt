-- How each line is spelled.
use Rattle.std.specs.Prelude.{ℕ, ◌+◌, ◌/◌, ◌%◌, ◌||◌, if◌then◌else◌, ◌==◌, nat_lt, List, [], ◌∷◌, ◌++◌, Option, Some, None, decimal, flat_map}
use Rattle.classes.specs.Ascii.{ascii}
use Rattle.classes.specs.Class.{class_name}
use Rattle.vocabulary.specs.IoKind.{io_name}
use Rattle.vocabulary.specs.declared.kind.Kind.{Kind}
use Rattle.vocabulary.specs.declared.kind.Kind.TheVariants as kind
use Rattle.cases.specs.Words.{word_text}
use Rattle.cases.specs.declared.call.Call.{Call}
use Rattle.cases.specs.declared.call.Call.TheVariants as call
use Rattle.cases.specs.declared.call.Name.{Name}
use Rattle.cases.specs.declared.call.Name.TheVariants as name
use Rattle.cases.specs.declared.line.Line.{Line}
use Rattle.cases.specs.declared.line.Line.TheVariants as line
use Rattle.cases.specs.declared.operand.Operand.{Operand}
use Rattle.cases.specs.declared.operand.Operand.TheVariants.{Word, Name as Named, Number, Class as Classed, Io}
use Rattle.cases.specs.declared.statement.HostName.{HostName}
use Rattle.cases.specs.declared.statement.HostName.TheVariants as host
use Rattle.cases.specs.declared.statement.LayerName.{LayerName}
use Rattle.cases.specs.declared.statement.LayerName.TheVariants as layer
use Rattle.cases.specs.declared.statement.Statement.{Statement}
use Rattle.cases.specs.declared.statement.Statement.TheVariants as statement
use Rattle.cases.specs.declared.word.Word.{Word as FixedWord}
use Rattle.cases.specs.declared.word.Word.TheVariants as word

-- a report is named r, a basket b, a chain c, each followed by a number
abbrev pub name_text : Name → List ℕ
name_text (name.Report n) = 114 ∷ decimal n
name_text (name.Basket n) = 98 ∷ decimal n
name_text (name.Chain n) = 99 ∷ decimal n

abbrev pub operand_text : Operand → List ℕ
operand_text (Word w) = word_text w
operand_text (Named n) = name_text n
operand_text (Number n) = decimal n
operand_text (Classed c) = class_name c
operand_text (Io k) = io_name k

-- operands, a blank before each
abbrev pub operands_text : List Operand → List ℕ
operands_text os = flat_map (λ o. 32 ∷ operand_text o) os

abbrev pub report : ℕ → Operand
report n = Named (name.Report n)

abbrev pub basket : ℕ → Operand
basket n = Named (name.Basket n)

abbrev pub chain : ℕ → Operand
chain n = Named (name.Chain n)

abbrev pub nothing : Operand
nothing = Word word.None

-- what is there, or `none`
abbrev pub or_none : {X : Type 0} → (X → Operand) → Option X → Operand
or_none f None = nothing
or_none f (Some x) = f x

-- ---- building calls

abbrev pub call_word : Call → FixedWord
call_word (call.New r e p) = word.New
call_word (call.Raise r e p) = word.Raise
call_word (call.RaiseAll r b e p) = word.RaiseAll
call_word (call.Chain r s) = word.Chain
call_word (call.ChainAll r b) = word.ChainAll
call_word (call.Basket b) = word.Basket
call_word (call.Collect b r) = word.Collect
call_word (call.Take b r) = word.Take
call_word (call.DrainChildren r b) = word.DrainChildren
call_word (call.IntoChain r c) = word.IntoChain
call_word (call.IntoExn c r) = word.IntoExn
call_word (call.Discard n) = word.Discard

abbrev pub call_operands : Call → List Operand
call_operands (call.New r e p) = report r ∷ Number e ∷ Number p ∷ []
call_operands (call.Raise r e p) = report r ∷ Number e ∷ Number p ∷ []
call_operands (call.RaiseAll r b e p) = report r ∷ basket b ∷ Number e ∷ Number p ∷ []
call_operands (call.Chain r s) = report r ∷ report s ∷ []
call_operands (call.ChainAll r b) = report r ∷ basket b ∷ []
call_operands (call.Basket b) = basket b ∷ []
call_operands (call.Collect b r) = basket b ∷ report r ∷ []
call_operands (call.Take b r) = basket b ∷ or_none report r ∷ []
call_operands (call.DrainChildren r b) = report r ∷ basket b ∷ []
call_operands (call.IntoChain r c) = report r ∷ chain c ∷ []
call_operands (call.IntoExn c r) = chain c ∷ report r ∷ []
call_operands (call.Discard n) = Named n ∷ []

-- ---- texts

-- a hexadecimal digit, 0 to 9 or a to f
abbrev pub hex_digit : ℕ → ℕ
hex_digit d = if nat_lt d 10 then 48 + d else 87 + d

-- a newline is `\n`; a quote or a backslash has a backslash before it; other bytes below 32 and byte 127 are `\xHH`;
-- everything else stands for itself
abbrev pub escaped : ℕ → List ℕ
escaped b =
    if b == 10 then 92 ∷ 110 ∷ []
    else (if b == 34 || b == 92 then 92 ∷ b ∷ []
    else (if nat_lt b 32 || b == 127 then 92 ∷ 120 ∷ hex_digit (b / 16) ∷ hex_digit (b % 16) ∷ []
    else b ∷ []))

-- a text between quotes
abbrev pub quoted : List ℕ → List ℕ
quoted text = 34 ∷ (flat_map escaped text ++ 34 ∷ [])

-- ---- records

abbrev pub kind_operands : Kind → Option ℕ → List Operand
kind_operands kind.Plain s = Word word.Plain ∷ or_none Number s ∷ []
kind_operands (kind.Message c) s = Word word.Message ∷ or_none Classed c ∷ []
kind_operands (kind.ClassificationMarker c) s = Word word.Marker ∷ Classed c ∷ or_none Number s ∷ []
kind_operands kind.TryReserveError s = Word word.Reserve ∷ []
kind_operands (kind.Io k) s = Word word.Io ∷ Io k ∷ or_none Number s ∷ []

-- ---- statements

abbrev pub first_word : Statement → FixedWord
first_word (statement.Host h) = word.Host
first_word (statement.Error n x) = word.Error
first_word (statement.Layer l) = word.Layer
first_word (statement.Mark e c n) = word.Mark
first_word (statement.Wrap e k n) = word.Wrap
first_word (statement.Call c) = call_word c
first_word (statement.Ask r) = word.Ask

abbrev pub host_word : HostName → FixedWord
host_word host.Table = word.Table
host_word host.Drive = word.Drive

abbrev pub layer_word : LayerName → FixedWord
layer_word layer.Marker = word.Marker
layer_word layer.Io = word.Io

abbrev pub operands : Statement → List Operand
operands (statement.Host h) = Word (host_word h) ∷ []
operands (statement.Error n x) = Number n ∷ kind_operands x.kind x.source
operands (statement.Layer l) = Word (layer_word l) ∷ []
operands (statement.Mark e c n) = Number e ∷ Classed c ∷ Word word.As ∷ Number n ∷ []
operands (statement.Wrap e k n) = Number e ∷ Io k ∷ Word word.As ∷ Number n ∷ []
operands (statement.Call c) = call_operands c
operands (statement.Ask r) = report r ∷ []

-- a record ends with its text
abbrev pub tail : Statement → List ℕ
tail (statement.Host h) = []
tail (statement.Error n x) = 32 ∷ quoted x.text.items
tail (statement.Layer l) = []
tail (statement.Mark e c n) = []
tail (statement.Wrap e k n) = []
tail (statement.Call c) = []
tail (statement.Ask r) = []

abbrev pub spelled : Statement → List ℕ
spelled s = word_text (first_word s) ++ (operands_text (operands s) ++ tail s)

-- ---- lines

abbrev pub line_text : Line → List ℕ
line_text (line.Comment text) = 35 ∷ text.items
line_text (line.Case name) = ascii "case " ++ name.items
line_text (line.Statement s) = spelled s

-- a file: each line ends with a newline
abbrev pub spelling : List Line → List ℕ
spelling lines = flat_map (λ l. line_text l ++ 10 ∷ []) lines
