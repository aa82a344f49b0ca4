-- What is printed of a script.
use Rattle.std.specs.Prelude.{ℕ, Bool, true, false, List, [], ◌∷◌, ◌++◌, decimal, Some, None, Ok, Err, Option, Result}
use Rattle.classes.specs.Ascii.{ascii}
use Rattle.classes.specs.Class.{rank}
use Rattle.classes.specs.declared.class.Class.{Class}
use Rattle.vocabulary.specs.FrameError.{error_number}
use Rattle.vocabulary.specs.Policy.{standard}
use Rattle.vocabulary.specs.Refusal.{too_long}
use Rattle.vocabulary.specs.declared.policy.StandardPolicy.TheVariants.{CanRetry, CanRetryLenient}
use Rattle.drive_host.specs.Drive.{drive_errors}
use Rattle.trees.specs.Trees.{Forest, empty, tree, Tree}
use Rattle.readings.specs.Readings.{cause, class_of, verdict_of}
use Rattle.print_forms.specs.Prints.{tree_print}
use Rattle.script_runs.specs.Steps.{line_fault_number}
use Rattle.script_runs.specs.declared.fault.ScriptFault.{ScriptFault}
use Rattle.scripts.specs.declared.summary.Summary.{Summary}

abbrev pub newline : List ℕ
newline = 10 ∷ []

-- the rank of a class
abbrev pub rank_text : Option Class → List ℕ
rank_text None = ascii "none"
rank_text (Some c) = decimal (rank c)

abbrev pub yes_or_no : Bool → List ℕ
yes_or_no true = ascii "yes"
yes_or_no false = ascii "no"

-- what the questions answer of a report
abbrev pub summary_of : Tree → Summary
summary_of t = record {
  class = class_of drive_errors t;
  cause = error_number (cause drive_errors t);
  retry = verdict_of drive_errors (standard CanRetry) t;
  lenient = verdict_of drive_errors (standard CanRetryLenient) t;
}

-- the line of a summary
abbrev pub summary_text : Summary → List ℕ
summary_text s =
    ascii "class " ++ (rank_text s.class ++ (ascii " cause " ++ (decimal s.cause ++ (ascii " retry " ++ (yes_or_no s.retry ++ (ascii " lenient " ++ (yes_or_no s.lenient ++ newline)))))))

-- a report: its tree print and a newline, then the summary
abbrev pub report_text : Tree → List ℕ
report_text t = tree_print drive_errors t ++ (newline ++ summary_text (summary_of t))

-- the reports of a row, in order
abbrev pub row_text : Forest → List ℕ
row_text empty = []
row_text (tree e p c rest) = report_text (record { error = e; place = p; children = c }) ++ row_text rest

-- the line that ends a run
abbrev pub fault_text : ScriptFault → List ℕ
fault_text f = ascii "line " ++ (decimal f.line ++ (ascii " refused " ++ (decimal (line_fault_number f.fault) ++ newline)))

-- what is printed of a script's answer, if there is room for it
abbrev pub answer_text : Result Forest ScriptFault → List ℕ
answer_text (Ok row) = row_text row
answer_text (Err f) = fault_text f

-- in place of a longer print
abbrev pub too_long_text : List ℕ
too_long_text = ascii "refused " ++ (decimal too_long ++ newline)
