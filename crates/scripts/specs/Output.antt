-- The output of a script in a buffer of 65,536 bytes.
use Rattle.std.specs.Prelude.{◌≡◌, ℕ, ◌<◌, ◌≤◌, List, ◌++◌, length, take, drop, Result}
use Rattle.trees.specs.Trees.{Forest}
use Rattle.script_runs.specs.Runs.{Runs}
use Rattle.script_runs.specs.declared.fault.ScriptFault.{ScriptFault}
use Rattle.scripts.specs.Texts.{answer_text, too_long_text}

-- A text that fits stands at the front of the buffer, and the rest is as it was. In place of a longer one there is another text,
-- and what comes after it is not said.
pub record Fits (text otherwise old new : List ℕ) (n : ℕ) : Type 0 where
  pub fits : length text ≤ 65536 → (n ≡ length text) × (new ≡ text ++ drop n old)
  pub too_long : 65536 < length text → (n ≡ length otherwise) × (take n new ≡ otherwise)

-- the first `n` bytes of the buffer are what is printed of the script
pub record Output (script old new : List ℕ) (n : ℕ) : Type 0 where
  pub answer : Result Forest ScriptFault
  pub runs : Runs script answer
  pub printed : Fits (answer_text answer) too_long_text old new n

-- a script has one output, whatever the buffer holds before
abbrev pub OutputOnce : Type 0
OutputOnce = (script old new old' new' : List ℕ) (n m : ℕ) → Output script old new n → Output script old' new' m → (n ≡ m) × (take n new ≡ take m new')
