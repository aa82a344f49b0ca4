-- The fixed words of the format.
use Rattle.std.specs.Prelude.{ℕ, List}
use Rattle.classes.specs.Ascii.{ascii}
use Rattle.cases.specs.declared.word.Word.{Word}
use Rattle.cases.specs.declared.word.Word.TheVariants as word

abbrev pub word_text : Word → List ℕ
word_text word.Host = ascii "host"
word_text word.Table = ascii "table"
word_text word.Drive = ascii "drive"
word_text word.Error = ascii "error"
word_text word.Plain = ascii "plain"
word_text word.Message = ascii "message"
word_text word.Marker = ascii "marker"
word_text word.Reserve = ascii "reserve"
word_text word.Io = ascii "io"
word_text word.None = ascii "none"
word_text word.Layer = ascii "layer"
word_text word.Mark = ascii "mark"
word_text word.Wrap = ascii "wrap"
word_text word.As = ascii "as"
word_text word.New = ascii "new"
word_text word.Raise = ascii "raise"
word_text word.RaiseAll = ascii "raise_all"
word_text word.Chain = ascii "chain"
word_text word.ChainAll = ascii "chain_all"
word_text word.Basket = ascii "basket"
word_text word.Collect = ascii "collect"
word_text word.Take = ascii "take"
word_text word.DrainChildren = ascii "drain_children"
word_text word.IntoChain = ascii "into_chain"
word_text word.IntoExn = ascii "into_exn"
word_text word.Discard = ascii "discard"
word_text word.Ask = ascii "ask"
