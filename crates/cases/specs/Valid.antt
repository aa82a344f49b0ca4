-- Which values lines may have.
use Rattle.std.specs.Prelude.{◌≡◌, ◌≢◌, ℕ, ◌+◌, ◌<◌, ◌≤◌, ◌^◌, List, [], ◌∷◌, ◌++◌, length, Option, Some, None, IfSome, Result, Ok, Err}
use Rattle.std.specs.Global.{Vec}
use Rattle.std.specs.List.{AllByRecursion}
use Rattle.vocabulary.specs.declared.kind.Kind.{Kind}
use Rattle.vocabulary.specs.declared.kind.Kind.TheVariants as kind
use Rattle.cases.specs.declared.call.Call.{Call}
use Rattle.cases.specs.declared.call.Call.TheVariants as call
use Rattle.cases.specs.declared.call.Name.{Name}
use Rattle.cases.specs.declared.call.Name.TheVariants as name
use Rattle.cases.specs.Spelling.{line_text, spelling}
use Rattle.cases.specs.declared.line.Line.{Line}
use Rattle.cases.specs.declared.line.Line.TheVariants as line
use Rattle.cases.specs.declared.reader.ReadError.{ReadError}
use Rattle.cases.specs.declared.reader.ReadError.TheVariants as error
use Rattle.cases.specs.declared.statement.Record.{Record}
use Rattle.cases.specs.declared.statement.Statement.{Statement}
use Rattle.cases.specs.declared.statement.Statement.TheVariants as statement

-- at most 255 bytes
abbrev pub IsText : List ℕ → Type 0
IsText t = (length t ≤ 255) × AllByRecursion (λ b. b < 256) t

-- the number of a report, basket or chain, of an error, and a place
abbrev pub IsName : ℕ → Type 0
IsName n = n < 1024

abbrev pub IsError : ℕ → Type 0
IsError e = e < 65536

abbrev pub IsPlace : ℕ → Type 0
IsPlace p = p < 2 ^ 32

abbrev pub IsAnyName : Name → Type 0
IsAnyName (name.Report n) = IsName n
IsAnyName (name.Basket n) = IsName n
IsAnyName (name.Chain n) = IsName n

-- a call that names reports, baskets and chains, and no error
abbrev pub NamesOnly : Call → Type 0
NamesOnly (call.New r e p) = ⊥
NamesOnly (call.Raise r e p) = ⊥
NamesOnly (call.RaiseAll r b e p) = ⊥
NamesOnly _ = Unit {0}

abbrev pub IsCall : Call → Type 0
IsCall (call.New r e p) = IsName r × IsError e × IsPlace p
IsCall (call.Raise r e p) = IsName r × IsError e × IsPlace p
IsCall (call.RaiseAll r b e p) = IsName r × IsName b × IsError e × IsPlace p
IsCall (call.Chain r s) = IsName r × IsName s
IsCall (call.ChainAll r b) = IsName r × IsName b
IsCall (call.Basket b) = IsName b
IsCall (call.Collect b r) = IsName b × IsName r
IsCall (call.Take b r) = IsName b × IfSome r IsName
IsCall (call.DrainChildren r b) = IsName r × IsName b
IsCall (call.IntoChain r c) = IsName r × IsName c
IsCall (call.IntoExn c r) = IsName c × IsName r
IsCall (call.Discard n) = IsAnyName n

-- a message and a failed reservation have no source
abbrev pub MayHave : Kind → Option ℕ → Type 0
MayHave (kind.Message c) s = s ≡ None
MayHave kind.TryReserveError s = s ≡ None
MayHave _ s = IfSome s IsError

abbrev pub IsRecord : Record → Type 0
IsRecord x = MayHave x.kind x.source × IsText x.text.items

abbrev pub IsStatement : Statement → Type 0
IsStatement (statement.Host h) = Unit {0}
IsStatement (statement.Error n x) = IsError n × IsRecord x
IsStatement (statement.Layer l) = Unit {0}
IsStatement (statement.Mark e c n) = IsError e × IsError n
IsStatement (statement.Wrap e k n) = IsError e × IsError n
IsStatement (statement.Call c) = IsCall c
IsStatement (statement.Ask r) = IsName r

abbrev pub NoNewline : List ℕ → Type 0
NoNewline bytes = AllByRecursion (λ b. b ≢ 10) bytes

abbrev pub IsLine : Line → Type 0
IsLine (line.Comment text) = NoNewline text.items
IsLine (line.Case name) = NoNewline name.items
IsLine (line.Statement s) = IsStatement s

abbrev pub AreLines : List Line → Type 0
AreLines lines = AllByRecursion IsLine lines

-- the same line, but for where its bytes lie in memory
abbrev pub Same : Line → Line → Type 0
Same (line.Comment t) (line.Comment u) = t.items ≡ u.items
Same (line.Case t) (line.Case u) = t.items ≡ u.items
Same (line.Statement s) (line.Statement x) = s ≡ x
Same _ _ = ⊥

abbrev pub AllSame : List Line → List Line → Type 0
AllSame [] [] = Unit {0}
AllSame (l ∷ ls) (m ∷ ms) = Same l m × AllSame ls ms
AllSame _ _ = ⊥

-- a file is read as these lines, unless memory runs out
abbrev pub ReadAs : Result (Vec Line) ReadError → List Line → Type 0
ReadAs (Ok v) lines = AllSame v.items lines
ReadAs (Err error.Memory) lines = Unit {0}
ReadAs (Err (error.Line n)) lines = ⊥

-- a reader's answer that is this line
abbrev pub Gives : Option Line → Line → Type 0
Gives None l = ⊥
Gives (Some x) l = Same x l

-- The first bad line of a text has the number n, counted from 1: so many lines less one stand before it, and what comes after
-- them begins with no line.
pub record IsBad (text : List ℕ) (n : ℕ) (front : List Line) (rest : List ℕ) : Type 0 where
  pub parts : text ≡ spelling front ++ rest
  pub lines : AreLines front
  pub number : n ≡ length front + 1
  pub more : rest ≢ []
  pub no_line : (l : Line) (after : List ℕ) → IsLine l → rest ≡ line_text l ++ 10 ∷ after → ⊥
