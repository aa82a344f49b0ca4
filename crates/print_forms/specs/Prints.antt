-- The printed forms, byte by byte.
use Rattle.std.specs.Prelude.{ℕ, ◌+◌, Bool, false, cond, ◌||◌, List, [], ◌∷◌, ◌++◌, Some, None, Option, ◌==◌, codes, decimal, encode_utf8_all}
use Rattle.vocabulary.specs.declared.frame_error.FrameError.{FrameError}
use Rattle.model.specs.Host.{Errors}
use Rattle.trees.specs.Trees.{Tree}
use Rattle.nodes.specs.Nodes.{Content}
use Rattle.nodes.specs.Rows.{Rows, none, node}
use Rattle.readings.specs.Readings.{errors_of, unmarked}
use Rattle.print_forms.specs.Layout.{Line, head, cause, columns, continues, label, report_lines}
use Rattle.print_forms.specs.Shown.{error_text, host_text, shown}

-- what stands above the causes
abbrev pub caption : List ℕ
caption = encode_utf8_all (codes "\n\nCaused by:")

-- what begins the line of a cause
abbrev pub indent : List ℕ
indent = encode_utf8_all (codes "\n    ")

-- a column of a level above: a line down to what follows there
abbrev pub guide : Bool → List ℕ
guide follows = cond follows (encode_utf8_all (codes "│ ")) (encode_utf8_all (codes "  "))

-- the column of the line's own level
abbrev pub connector : Bool → List ℕ
connector more = cond more (encode_utf8_all (codes "├─")) (encode_utf8_all (codes "└─"))

-- the columns of the levels above, the deepest of which comes first
abbrev pub guides : List Bool → List ℕ
guides [] = []
guides (c ∷ cs) = guides cs ++ guide c

-- all columns of a line, after which one may follow on its own level
abbrev pub margin : List Bool → Bool → List ℕ
margin [] more = []
margin (c ∷ cs) more = guides cs ++ connector (c || more)

abbrev pub numbered : ℕ → List ℕ
numbered n = decimal n ++ encode_utf8_all (codes ": ")

abbrev pub label_text : Option ℕ → List ℕ
label_text None = encode_utf8_all (codes " ")
label_text (Some n) = numbered n

-- the bytes of a line
abbrev pub line_text : Errors → Line Content → List ℕ
line_text h (head later causes v) =
    cond later (encode_utf8_all (codes "\n")) [] ++ (error_text h v.error ++ cond (causes == 0) [] caption)
line_text h (cause x) = indent ++ (margin (columns x.path) (continues x) ++ (label_text (label x) ++ error_text h x.value.error))

abbrev pub lines_text : Errors → List (Line Content) → List ℕ
lines_text h [] = []
lines_text h (x ∷ xs) = line_text h x ++ lines_text h xs

-- reports one beneath the other; where there is none, as all nodes are markers, another text
abbrev pub heads_text : Errors → List ℕ → Rows Content → List ℕ
heads_text h otherwise none = otherwise
heads_text h otherwise (node v c r) = lines_text h (report_lines false (node v c r))

-- a report in the tree form: for markers alone, the text of the root
unfoldable pub tree_print : Errors → Tree → List ℕ
tree_print h t = heads_text h (host_text h t.error) (shown h t)

-- the errors of a chain after the first, numbered from `n`, one a line
abbrev pub chain_lines : Errors → ℕ → List FrameError → List ℕ
chain_lines h n [] = []
chain_lines h n (e ∷ es) = indent ++ (numbered n ++ (error_text h e ++ chain_lines h (n + 1) es))

-- errors on several lines; of none, another text
abbrev pub errors_text : Errors → List ℕ → List FrameError → List ℕ
errors_text h otherwise [] = otherwise
errors_text h otherwise (e ∷ []) = error_text h e
errors_text h otherwise (e ∷ (f ∷ es)) = error_text h e ++ (caption ++ chain_lines h 0 (f ∷ es))

abbrev pub after_colon : Errors → List FrameError → List ℕ
after_colon h [] = []
after_colon h (e ∷ es) = encode_utf8_all (codes ": ") ++ (error_text h e ++ after_colon h es)

-- errors on one line; of none, another text
abbrev pub errors_inline : Errors → List ℕ → List FrameError → List ℕ
errors_inline h otherwise [] = otherwise
errors_inline h otherwise (e ∷ es) = error_text h e ++ after_colon h es

-- a chain on several lines: its errors breadth-first without markers; for markers alone, the text of the root
unfoldable pub chain_print : Errors → Tree → List ℕ
chain_print h t = errors_text h (host_text h t.error) (unmarked h (errors_of h t))

-- the same on one line
unfoldable pub inline_print : Errors → Tree → List ℕ
inline_print h t = errors_inline h (host_text h t.error) (unmarked h (errors_of h t))
