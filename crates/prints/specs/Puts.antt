-- Texts of several errors put into a buffer.
use Rattle.std.specs.Prelude.{◌≡◌, ℕ, ◌<◌, ◌≤◌, List, ◌++◌, length, drop, Ok, Err, Result}
use Rattle.vocabulary.specs.declared.fault.HostFault.{HostFault}
use Rattle.vocabulary.specs.declared.fault.PrintFault.{PrintFault}
use Rattle.vocabulary.specs.declared.fault.PrintFault.TheVariants.{BufferTooShort}
use Rattle.model.specs.Host.{Errors}
use Rattle.nodes.specs.declared.node.Node.{Node}
use Rattle.nodes.specs.Check.{node_at}
use Rattle.nodes.specs.Nodes.{LiveError}
use Rattle.buffers.specs.Printed.{Printed, capped}

-- the errors of nodes are all live
abbrev pub AllLive : Errors → List Node → Type 0
AllLive h xs = (k : ℕ) → k < length xs → LiveError h (node_at xs k).error

-- a text is put; or the host turns a question down, which it does not where all errors are live
abbrev pub TextPut : Type 0 → List ℕ → ℕ → List ℕ → List ℕ → Result ℕ HostFault → Type 0
TextPut live text at old new (Ok to) = Printed at to old new text
TextPut live text at old new (Err f) = live → ⊥

-- a text stands at the front of the buffer; or the buffer is too short for it, and stays
abbrev pub TextPrinted : List ℕ → List ℕ → List ℕ → Result ℕ PrintFault → Type 0
TextPrinted text old new (Ok n) = (length text ≤ length old) × (n ≡ length text) × (new ≡ text ++ drop n old)
TextPrinted text old new (Err f) = (f ≡ BufferTooShort (capped (length text))) × (length old < length text) × (new ≡ old)
