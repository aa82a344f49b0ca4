-- Bytes put into a buffer.
use Rattle.std.specs.Prelude.{◌≡◌, ℕ, ◌+◌, ◌≤◌, min, List, ◌++◌, length, take, drop, Ok, Err, Option, Result}
use Rattle.vocabulary.specs.FrameError.{error_number}
use Rattle.vocabulary.specs.declared.fault.HostFault.{HostFault}
use Rattle.vocabulary.specs.declared.fault.HostFault.TheVariants.{NotLive}
use Rattle.vocabulary.specs.declared.frame_error.FrameError.{FrameError}
use Rattle.vocabulary.specs.declared.frame_error.FrameError.TheVariants.{Host}
use Rattle.vocabulary.specs.declared.io_kind.IoKind.{IoKind}
use Rattle.model.specs.Host.{Errors, answer}
use Rattle.nodes.specs.Nodes.{LiveError}
use Rattle.print_forms.specs.Shown.{payload_kind}

-- a number held to 64 bits
abbrev pub capped : ℕ → ℕ
capped n = min n 18446744073709551615

-- bytes in place of those from a position on
abbrev pub written : ℕ → List ℕ → List ℕ → List ℕ
written at bytes old = take at old ++ (bytes ++ drop (at + length bytes) old)

-- Bytes are put from `at` on, and the next ones begin at `to`. Where they fit they stand in the buffer, and the rest is as it
-- was; where they do not, no more is known than that what stands before them is as it was.
pub record Printed (at to : ℕ) (old new bytes : List ℕ) : Type 0 where
  pub ends : to ≡ capped (at + length bytes)
  pub fits : at + length bytes ≤ length old → (to ≡ at + length bytes) × (new ≡ written at bytes old)
  pub long : length new ≡ length old
  pub front : (k : ℕ) → k ≤ at → k ≤ to → take k new ≡ take k old

-- the answer to the question for the io kind of an io error that has a payload
abbrev pub kind_answer : Errors → FrameError → Result (Option IoKind) HostFault
kind_answer h (Host e) = answer (h e) e payload_kind

-- the text of a live error is put; of any other the host turns the question down, and the buffer stays
abbrev pub ErrorPut : Errors → FrameError → List ℕ → ℕ → List ℕ → List ℕ → Result ℕ HostFault → Type 0
ErrorPut h e text at old new (Ok to) = LiveError h e × Printed at to old new text
ErrorPut h e text at old new (Err f) = (LiveError h e → ⊥) × (f ≡ NotLive (error_number e)) × (new ≡ old)
