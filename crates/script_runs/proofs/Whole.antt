-- A run of a whole script.
use Rattle.std.proofs.Common.{◌≡◌, ◌≢◌, true, false, eqb, ℕ, ◌<◌, ◌≤◌, List, [], ◌∷◌, length, None, Result, refl, sym, ap, subst, length-append, arith}
use Rattle.std.proofs.lemmas.Bool.{eqb-true}
use Rattle.drive_host.specs.Drive.{drive_errors}
use Rattle.trees.specs.Trees.{Forest, empty}
use Rattle.ledger.specs.Ledger.{nothing}
use Rattle.store.specs.Reached as reached
use Rattle.store.specs.Store.{Holds}
use Rattle.store.specs.Token.{Basket}
use Rattle.store.specs.declared.store.Store.{Store}
use Rattle.runs.proofs.Standing.{along, ledger_same}
use Rattle.script_lines.specs.Spelling.{Begins}
use Rattle.script_lines.specs.declared.line.Line.{Line}
use Rattle.script_runs.specs.Runs.{Runs, RunsFrom, refused}
use Rattle.script_runs.specs.Working.{Rests}
use Rattle.script_runs.specs.declared.fault.LineFault.TheVariants.{NotRead}
use Rattle.script_runs.specs.declared.fault.ScriptFault.{ScriptFault}

-- an empty store and an empty basket
pub started : (s : Store) (b : Basket) → Holds s nothing → b ≡ record { store = s.number; root = None; spent = false } → Rests s b empty
started s b h e = subst (λ (c : Basket). Rests s c empty) (sym e) (record {
  number = refl;
  ledger = ledger_same s nothing h;
  vacant = tt;
  known = refl;
  reached = along drive_errors s nothing h (reached.empty drive_errors s h);
})

pub runs_long : (script : List ℕ) → 4096 < length script → Runs script (refused 0 NotRead)
runs_long script h = record { long = λ _. refl; short = λ k. absurd (omega arith) }

pub runs_short : (script : List ℕ) (answer : Result Forest ScriptFault) → length script ≤ 4096 → RunsFrom 1 empty script answer → Runs script answer
runs_short script answer h r = record { long = λ k. absurd (omega arith); short = λ _. r }

pub less_left : (text after : List ℕ) (l : Line) → Begins text l after → length after < length text
less_left text after l b = let size = ap length b.parts in omega (arith, simp length-append at size)

pub more_left : (text : List ℕ) → eqb (length text) 0 ≡ false → text ≢ []
more_left text e q = let none : eqb (length text) 0 ≡ true = ap (λ (t : List ℕ). eqb (length t) 0) q in absurd (cc (e, none))

pub none_left : (text : List ℕ) → eqb (length text) 0 ≡ true → text ≡ []
none_left [] e = refl
none_left (b ∷ text) e = let none = eqb-true (length (b ∷ text)) 0 e in absurd (omega (arith, none))
