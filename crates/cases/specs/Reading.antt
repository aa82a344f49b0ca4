-- What the readers of words give. They are lenient: a line is read only if what comes of it is spelled as the line is.
use Rattle.std.specs.Prelude.{ℕ, ◌+◌, ◌*◌, ◌-◌, ◌^◌, ◌&&◌, if◌then◌else◌, ◌==◌, nat_lt, nat_le, List, [], ◌∷◌, Option, Some, None, find, bytes_eq}
use Rattle.classes.specs.Class.{classes, class_name}
use Rattle.classes.specs.declared.class.Class.{Class}
use Rattle.vocabulary.specs.IoKind.{io_kinds, io_name}
use Rattle.vocabulary.specs.declared.io_kind.IoKind.{IoKind}
use Rattle.cases.specs.Words.{word_text}
use Rattle.vocabulary.specs.declared.kind.Kind.{Kind}
use Rattle.vocabulary.specs.declared.kind.Kind.TheVariants as kind
use Rattle.cases.specs.declared.call.Call.{Call}
use Rattle.cases.specs.declared.call.Call.TheVariants as call
use Rattle.cases.specs.declared.call.Name.{Name}
use Rattle.cases.specs.declared.call.Name.TheVariants as name
use Rattle.cases.specs.declared.statement.HostName.{HostName}
use Rattle.cases.specs.declared.statement.HostName.TheVariants as host
use Rattle.cases.specs.declared.statement.LayerName.{LayerName}
use Rattle.cases.specs.declared.statement.LayerName.TheVariants as layer
use Rattle.cases.specs.declared.statement.Record.{Record}
use Rattle.cases.specs.declared.statement.Statement.{Statement}
use Rattle.cases.specs.declared.statement.Statement.TheVariants as statement
use Rattle.cases.specs.declared.word.Word.{Word}
use Rattle.cases.specs.declared.word.Word.TheVariants as word

infixl 10 ◌>>=◌
abbrev pub ◌>>=◌ : {A B : Type 0} → Option A → (A → Option B) → Option B
(Some x) >>= f = f x
None >>= f = None

-- the bytes before the first such byte, and those after it
abbrev pub before : ℕ → List ℕ → List ℕ
before b [] = []
before b (x ∷ xs) = if x == b then [] else x ∷ before b xs

abbrev pub after : ℕ → List ℕ → List ℕ
after b [] = []
after b (x ∷ xs) = if x == b then xs else after b xs

-- ---- one word

abbrev pub digits_at : ℕ → List ℕ → Option ℕ
digits_at n [] = Some n
digits_at n (c ∷ cs) = if nat_le 48 c && nat_le c 57 && nat_lt (10 * n + (c - 48)) (2 ^ 32) then digits_at (10 * n + (c - 48)) cs else None

abbrev pub number_at : List ℕ → Option ℕ
number_at w = digits_at 0 w

-- a number below a limit
abbrev pub below : ℕ → List ℕ → Option ℕ
below limit w = number_at w >>= λ n. if nat_lt n limit then Some n else None

abbrev pub error_at : List ℕ → Option ℕ
error_at w = below 65536 w

-- a letter, and a number below 1,024
abbrev pub name_at : ℕ → List ℕ → Option ℕ
name_at letter [] = None
name_at letter (c ∷ cs) = if c == letter then below 1024 cs else None

abbrev pub words : List Word
words =
    word.Host ∷ word.Table ∷ word.Drive ∷ word.Error ∷ word.Plain ∷ word.Message ∷ word.Marker ∷ word.Reserve ∷ word.Io ∷ word.None
    ∷ word.Layer ∷ word.Mark ∷ word.Wrap ∷ word.As ∷ word.New ∷ word.Raise ∷ word.RaiseAll ∷ word.Chain ∷ word.ChainAll ∷ word.Basket
    ∷ word.Collect ∷ word.Take ∷ word.DrainChildren ∷ word.IntoChain ∷ word.IntoExn ∷ word.Discard ∷ word.Ask ∷ []

abbrev pub word_at : List ℕ → Option Word
word_at w = find (λ x. bytes_eq (word_text x) w) words

abbrev pub class_at : List ℕ → Option Class
class_at w = find (λ x. bytes_eq (class_name x) w) classes

abbrev pub io_at : List ℕ → Option IoKind
io_at w = find (λ x. bytes_eq (io_name x) w) io_kinds

-- `none`, or what another reader makes of the word
abbrev pub maybe_at : {X : Type 0} → (List ℕ → Option X) → List ℕ → Option (Option X)
maybe_at f w = if bytes_eq w (word_text word.None) then Some None else (f w >>= λ x. Some (Some x))

abbrev pub any_name_at : List ℕ → Option Name
any_name_at [] = None
any_name_at (c ∷ cs) = below 1024 cs >>= λ n.
    if c == 114 then Some (name.Report n) else (if c == 98 then Some (name.Basket n) else (if c == 99 then Some (name.Chain n) else None))

-- ---- one byte of a text

abbrev pub hex_at : ℕ → Option ℕ
hex_at d = if nat_le 48 d && nat_le d 57 then Some (d - 48) else (if nat_le 97 d && nat_le d 102 then Some (d - 87) else None)

abbrev pub hex_pair_at : List ℕ → Option (ℕ × List ℕ)
hex_pair_at [] = None
hex_pair_at (h ∷ []) = None
hex_pair_at (h ∷ l ∷ cs) = hex_at h >>= λ a. hex_at l >>= λ b. Some (16 * a + b, cs)

abbrev pub escape_at : List ℕ → Option (ℕ × List ℕ)
escape_at [] = None
escape_at (c ∷ cs) = if c == 110 then Some (10, cs) else (if c == 120 then hex_pair_at cs else Some (c, cs))

-- none at the closing quote
abbrev pub byte_at : List ℕ → Option (ℕ × List ℕ)
byte_at [] = None
byte_at (c ∷ cs) = if c == 34 then None else (if c == 92 then escape_at cs else Some (c, cs))

-- ---- one line, by its first word and the four words after it

abbrev pub report_at : List ℕ → Option ℕ
report_at w = name_at 114 w

abbrev pub basket_at : List ℕ → Option ℕ
basket_at w = name_at 98 w

abbrev pub chain_at : List ℕ → Option ℕ
chain_at w = name_at 99 w

-- a call that names reports, baskets and chains, and no error
unfoldable pub names_at : Word → (a b : List ℕ) → Option Call
names_at word.Chain a b = report_at a >>= λ r. report_at b >>= λ s. Some (call.Chain r s)
names_at word.ChainAll a b = report_at a >>= λ r. basket_at b >>= λ s. Some (call.ChainAll r s)
names_at word.Basket a b = basket_at a >>= λ s. Some (call.Basket s)
names_at word.Collect a b = basket_at a >>= λ s. report_at b >>= λ r. Some (call.Collect s r)
names_at word.Take a b = basket_at a >>= λ s. maybe_at report_at b >>= λ r. Some (call.Take s r)
names_at word.DrainChildren a b = report_at a >>= λ r. basket_at b >>= λ s. Some (call.DrainChildren r s)
names_at word.IntoChain a b = report_at a >>= λ r. chain_at b >>= λ s. Some (call.IntoChain r s)
names_at word.IntoExn a b = chain_at a >>= λ s. report_at b >>= λ r. Some (call.IntoExn s r)
names_at word.Discard a b = any_name_at a >>= λ n. Some (call.Discard n)
names_at _ a b = None

unfoldable pub call_at : Word → (a b c d : List ℕ) → Option Call
call_at word.New a b c d = report_at a >>= λ r. error_at b >>= λ e. number_at c >>= λ p. Some (call.New r e p)
call_at word.Raise a b c d = report_at a >>= λ r. error_at b >>= λ e. number_at c >>= λ p. Some (call.Raise r e p)
call_at word.RaiseAll a b c d = report_at a >>= λ r. basket_at b >>= λ s. error_at c >>= λ e. number_at d >>= λ p. Some (call.RaiseAll r s e p)
call_at w a b c d = names_at w a b

unfoldable pub kind_at : Word → (c d : List ℕ) → Option (Kind × Option ℕ)
kind_at word.Plain c d = maybe_at error_at c >>= λ s. Some (kind.Plain, s)
kind_at word.Message c d = maybe_at class_at c >>= λ x. Some (kind.Message x, None)
kind_at word.Marker c d = class_at c >>= λ x. maybe_at error_at d >>= λ s. Some (kind.ClassificationMarker x, s)
kind_at word.Reserve c d = Some (kind.TryReserveError, None)
kind_at word.Io c d = io_at c >>= λ x. maybe_at error_at d >>= λ s. Some (kind.Io x, s)
kind_at _ c d = None

abbrev pub word_host : Word → Option HostName
word_host word.Table = Some host.Table
word_host word.Drive = Some host.Drive
word_host _ = None

abbrev pub host_at : List ℕ → Option HostName
host_at w = word_at w >>= word_host

abbrev pub word_layer : Word → Option LayerName
word_layer word.Marker = Some layer.Marker
word_layer word.Io = Some layer.Io
word_layer _ = None

abbrev pub layer_at : List ℕ → Option LayerName
layer_at w = word_at w >>= word_layer

-- `full` makes a record of a kind and a source
unfoldable pub statement_at : Word → (a b c d : List ℕ) → (Kind → Option ℕ → Record) → Option Statement
statement_at word.Host a b c d full = host_at a >>= λ h. Some (statement.Host h)
statement_at word.Error a b c d full = error_at a >>= λ n. word_at b >>= λ w. kind_at w c d >>= λ k. Some (statement.Error n (full k.0 k.1))
statement_at word.Layer a b c d full = layer_at a >>= λ l. Some (statement.Layer l)
statement_at word.Mark a b c d full = error_at a >>= λ e. class_at b >>= λ x. error_at d >>= λ n. Some (statement.Mark e x n)
statement_at word.Wrap a b c d full = error_at a >>= λ e. io_at b >>= λ x. error_at d >>= λ n. Some (statement.Wrap e x n)
statement_at word.Ask a b c d full = report_at a >>= λ r. Some (statement.Ask r)
statement_at w a b c d full = call_at w a b c d >>= λ x. Some (statement.Call x)
