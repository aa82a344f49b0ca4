-- What a script comes to.
use Rattle.std.specs.Prelude.{◌≡◌, ◌≢◌, ℕ, ◌+◌, ◌<◌, ◌≤◌, List, [], length, Ok, Err, Result}
use Rattle.trees.specs.Trees.{Forest, empty}
use Rattle.script_lines.specs.Spelling.{Begins}
use Rattle.script_lines.specs.declared.line.Line.{Line}
use Rattle.script_runs.specs.Steps.{step}
use Rattle.script_runs.specs.declared.fault.LineFault.{LineFault}
use Rattle.script_runs.specs.declared.fault.LineFault.TheVariants.{NotRead}
use Rattle.script_runs.specs.declared.fault.ScriptFault.{ScriptFault}

-- the line of this number is refused
abbrev pub refused : ℕ → LineFault → Result Forest ScriptFault
refused n f = Err (record { line = n; fault = f })

-- What the rest of a script comes to, whose first line has the number `n`, from a row on: the row after its last line, or
-- the first line that is refused. A line's number is the place of the frame that it makes.
pub data RunsFrom : ℕ → Forest → List ℕ → Result Forest ScriptFault → Type 0 where
  ends : (n : ℕ) (row : Forest) (text : List ℕ) (answer : Result Forest ScriptFault) → text ≡ [] → answer ≡ Ok row → RunsFrom n row text answer
  goes_on : (n : ℕ) (row next : Forest) (l : Line) (text after : List ℕ) (answer : Result Forest ScriptFault) → Begins text l after → step n l row ≡ Ok next → RunsFrom (n + 1) next after answer → RunsFrom n row text answer
  refuses : (n : ℕ) (row : Forest) (l : Line) (f : LineFault) (text after : List ℕ) (answer : Result Forest ScriptFault) → Begins text l after → step n l row ≡ Err f → answer ≡ refused n f → RunsFrom n row text answer
  stops : (n : ℕ) (row : Forest) (text : List ℕ) (answer : Result Forest ScriptFault) → text ≢ [] → ((l : Line) (after : List ℕ) → Begins text l after → ⊥) → answer ≡ refused n NotRead → RunsFrom n row text answer

-- A whole script, from an empty basket on. One of more than 4,096 bytes is refused as a whole, under the number 0.
pub record Runs (script : List ℕ) (answer : Result Forest ScriptFault) : Type 0 where
  pub long : 4096 < length script → answer ≡ refused 0 NotRead
  pub short : length script ≤ 4096 → RunsFrom 1 empty script answer

-- there is one such answer
abbrev pub RunsOnce : Type 0
RunsOnce = (script : List ℕ) (a b : Result Forest ScriptFault) → Runs script a → Runs script b → a ≡ b
