-- Prints into buffers that are as long as needed.
use Rattle.std.specs.Prelude.{ℕ, Bool, cond, List, Err, Result}
use Rattle.vocabulary.specs.declared.fault.PrintFault.{PrintFault}
use Rattle.vocabulary.specs.declared.fault.PrintFault.TheVariants.{BufferTooShort}
use Rattle.model.specs.Host.{Errors}
use Rattle.trees.specs.Trees.{Tree}
use Rattle.print_forms.specs.Prints.{chain_print, inline_print}

-- the number of bytes that a buffer is refused with
abbrev pub bytes_needed : Result ℕ PrintFault → ℕ
bytes_needed (Err (BufferTooShort n)) = n
bytes_needed r = 0

-- a chain on one line or on several
abbrev pub chain_form : Bool → Errors → Tree → List ℕ
chain_form inline = cond inline inline_print chain_print
