-- How the lines of scripts are spelled, and what a script consists of.
use Rattle.std.specs.Prelude.{◌≡◌, ℕ, ◌<◌, Bool, not, ◌==◌, List, ◌∷◌, ◌++◌, decimal}
use Rattle.std.specs.List.{list_all}
use Rattle.classes.specs.Ascii.{ascii}
use Rattle.script_lines.specs.declared.line.Line.{Line}
use Rattle.script_lines.specs.declared.line.Line.TheVariants.{New, Raise, All, Chain, Drain, Drop}

-- a word, and the number of an error after a blank
abbrev pub line_text : Line → List ℕ
line_text (New e) = ascii "new " ++ decimal e
line_text (Raise e) = ascii "raise " ++ decimal e
line_text (All e) = ascii "all " ++ decimal e
line_text Chain = ascii "chain"
line_text Drain = ascii "drain"
line_text Drop = ascii "drop"

abbrev pub IsError : ℕ → Type 0
IsError e = e < 65536

abbrev pub IsLine : Line → Type 0
IsLine (New e) = IsError e
IsLine (Raise e) = IsError e
IsLine (All e) = IsError e
IsLine _ = Unit {0}

-- without newlines
abbrev pub plain : List ℕ → Bool
plain bytes = list_all (λ b. not (b == 10)) bytes

-- a text begins with a line, and these bytes come after its newline
pub record Begins (text : List ℕ) (l : Line) (after : List ℕ) : Type 0 where
  pub is_line : IsLine l
  pub parts : text ≡ line_text l ++ 10 ∷ after
