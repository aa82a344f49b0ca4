-- What a print of a chain answers and leaves.
use Rattle.std.specs.Prelude.{◌≡◌, ℕ, ◌-◌, ◌<◌, cond, List, [], ◌++◌, map, length, drop, Ok, Err, Result, ◌==◌, codes, encode_utf8_all}
use Rattle.vocabulary.specs.declared.fault.PrintFault.{PrintFault}
use Rattle.vocabulary.specs.declared.fault.PrintFault.TheVariants.{Host, Store, BufferTooShort}
use Rattle.vocabulary.specs.declared.frame_error.FrameError.{FrameError}
use Rattle.model.specs.Host.{Errors}
use Rattle.trees.specs.Trees.{Tree}
use Rattle.nodes.specs.declared.node.Node.{Node}
use Rattle.nodes.specs.Begins.{Flat, Flattens}
use Rattle.readings.specs.Readings.{unmarked}
use Rattle.print_forms.specs.Prints.{caption, chain_print, errors_inline, errors_text, indent, inline_print, numbered}
use Rattle.checks.specs.Flattening.{Refused}
use Rattle.buffers.specs.Printed.{capped}
use Rattle.prints.specs.declared.chain.Form.{Form}
use Rattle.prints.specs.declared.chain.Form.TheVariants.{Lines, Inline}

-- a chain in a form
abbrev pub chain_form : Form → Errors → Tree → List ℕ
chain_form Lines = chain_print
chain_form Inline = inline_print

-- errors in a form; of none, another text
abbrev pub errors_form : Form → Errors → List ℕ → List FrameError → List ℕ
errors_form Lines = errors_text
errors_form Inline = errors_inline

-- what stands between two errors, the second of which comes after `n` others
abbrev pub between : Form → ℕ → List ℕ
between Lines n = cond (n == 1) caption [] ++ (indent ++ numbered (n - 1))
between Inline n = encode_utf8_all (codes ": ")

-- what stands before an error that comes after `n` others
abbrev pub separator : Form → ℕ → List ℕ
separator f n = cond (n == 0) [] (between f n)

-- the errors of nodes that are no markers
abbrev pub shown_in : Errors → List Node → List FrameError
shown_in h xs = unmarked h (map (λ (x : Node). x.error) xs)

-- why a chain is not printed: its nodes are no flattening, or the print of their tree is longer than the buffer
abbrev pub Unprinted : Errors → List Node → (Tree → List ℕ) → ℕ → PrintFault → Type 0
Unprinted h xs print room (Host f) = ⊥
Unprinted h xs print room (Store f) = Refused h xs f
Unprinted h xs print room (BufferTooShort n) = Flat h xs × ((t : Tree) → Flattens h xs t → (n ≡ capped (length (print t))) × (room < length (print t)))

-- the print of the tree stands at the front of the buffer; or the print is turned down and the buffer stays
abbrev pub ChainPrinted : Errors → List Node → (Tree → List ℕ) → List ℕ → List ℕ → Result ℕ PrintFault → Type 0
ChainPrinted h xs print old new (Ok n) = Flat h xs × ((t : Tree) → Flattens h xs t → (n ≡ length (print t)) × (new ≡ print t ++ drop n old))
ChainPrinted h xs print old new (Err f) = Unprinted h xs print (length old) f × (new ≡ old)
