-- How long the print of a tree is at most.
use Rattle.std.proofs.Common.{◌≡◌, ℕ, ◌+◌, ◌*◌, ◌≤◌, Bool, true, false, cond, ◌||◌, List, [], ◌∷◌, ◌++◌, length, Some, None, Option, eqb, ltb, refl, ap, ◌∙◌, arith}
use Rattle.std.specs.Prelude.{codes, decimal, encode_utf8_all}
use Rattle.std.proofs.lemmas.List.{length-append}
use Rattle.std.proofs.lemmas.Fmt.{length-decimal-le}
use Rattle.classes.specs.Ascii.{ascii}
use Rattle.vocabulary.specs.IoKind.{io_name}
use Rattle.vocabulary.specs.declared.frame_error.FrameError.{FrameError}
use Rattle.vocabulary.specs.declared.frame_error.FrameError.TheVariants.{Host}
use Rattle.vocabulary.specs.declared.io_kind.IoKind.{IoKind}
use Rattle.vocabulary.specs.declared.io_kind.IoKind.TheVariants.{Other, NotFound, PermissionDenied, Unsupported, OutOfMemory, Interrupted, TimedOut, UnexpectedEof, BrokenPipe, AddrInUse, ConnectionAborted, ConnectionReset, ConnectionRefused, WouldBlock, AlreadyExists, InvalidData}
use Rattle.model.specs.Host.{Error, Errors, Lawful}
use Rattle.trees.specs.Trees.{Tree}
use Rattle.nodes.specs.Flattening.{flattening}
use Rattle.nodes.specs.Nodes.{Content, nodes_of}
use Rattle.nodes.specs.Rows.{Rows, none, node, count}
use Rattle.nodes.proofs.Rebuild.{flattening-length}
use Rattle.readings.specs.Readings.{marker}
use Rattle.print_forms.specs.Layout.{Cause, Line, Path, Step, at_branch, at_only_cause, cause, cause_lines, causes_of, columns, continues, head, is_branch, label, no_columns, number, report_lines}
use Rattle.print_forms.specs.Prints.{caption, connector, guide, guides, heads_text, indent, label_text, line_text, lines_text, margin, tree_print}
use Rattle.print_forms.specs.Shown.{error_text, host_text, payload_kind, plain_text, shown, text_or_kind, told_text, width}
use Rattle.line_plans.proofs.Lines.{cause_lines-append}
use Rattle.prints.proofs.Counts.{shown_count}
use Rattle.prints.proofs.LineLists.{lines_text-append}

-- one of two lists is chosen, neither of which is longer
chosen : {A : Type 0} (b : Bool) (x y : List A) (n : ℕ) → length x ≤ n → length y ≤ n → length (cond b x y) ≤ n
chosen true x y n p q = p
chosen false x y n p q = q

chosen_number : (b : Bool) (x y n : ℕ) → x ≤ n → y ≤ n → cond b x y ≤ n
chosen_number true x y n p q = p
chosen_number false x y n p q = q

name_long : (k : IoKind) → length (io_name k) ≤ 17
name_long Other = omega arith
name_long NotFound = omega arith
name_long PermissionDenied = omega arith
name_long Unsupported = omega arith
name_long OutOfMemory = omega arith
name_long Interrupted = omega arith
name_long TimedOut = omega arith
name_long UnexpectedEof = omega arith
name_long BrokenPipe = omega arith
name_long AddrInUse = omega arith
name_long ConnectionAborted = omega arith
name_long ConnectionReset = omega arith
name_long ConnectionRefused = omega arith
name_long WouldBlock = omega arith
name_long AlreadyExists = omega arith
name_long InvalidData = omega arith

kind_long : (text : List ℕ) (o : Option IoKind) → length text ≤ 255 → length (text_or_kind text o) ≤ 255
kind_long text None le = le
kind_long text (Some k) le = let a = length-append (io_name k) (ascii ")") in let b = name_long k in omega arith

caption_long : length caption ≡ 12
unfolding lib.Utf8.encode
caption_long = refl

indent_long : length indent ≡ 5
unfolding lib.Utf8.encode
indent_long = refl

guide_long : (b : Bool) → length (guide b) ≤ 4
unfolding lib.Utf8.encode
guide_long true = omega arith
guide_long false = omega arith

connector_long : (b : Bool) → length (connector b) ≤ 6
unfolding lib.Utf8.encode
connector_long true = omega arith
connector_long false = omega arith

break_long : (b : Bool) → length (cond b (encode_utf8_all (codes "\n")) []) ≤ 1
unfolding lib.Utf8.encode
break_long true = omega arith
break_long false = omega arith

label_long : (n : ℕ) (b : Bool) → n ≤ 134217728 → length (label_text (cond b (Some n) None)) ≤ 22
unfolding lib.Utf8.encode
label_long n true le = let a = length-decimal-le 20 n (omega arith) (omega arith) (omega arith) in let b = length-append (decimal n) (encode_utf8_all (codes ": ")) in omega arith
label_long n false le = omega arith

guides_long : (cs : List Bool) → length (guides cs) ≤ 4 * length cs
guides_long [] = omega arith
guides_long (c ∷ cs) = let a = guides_long cs in let b = guide_long c in let d = length-append (guides cs) (guide c) in omega arith

margin_long : (cs : List Bool) (more : Bool) → length (margin cs more) ≤ 4 * length cs + 6
margin_long [] more = omega arith
margin_long (c ∷ cs) more = let a = guides_long cs in let b = connector_long (c || more) in let d = length-append (guides cs) (connector (c || more)) in omega arith

-- a step down adds at most one column
columns_more : (s : Step) (up : Path) → length (columns (s ∷ up)) ≤ length (columns up) + 1
columns_more s up =
    chosen (is_branch s) _ _ _ (omega arith) (chosen (at_branch up) (false ∷ columns up) (columns up) _ (omega arith) (omega arith))

number_more : (s : Step) (up : Path) → number (s ∷ up) ≤ s.index + number up + 1
number_more s up = chosen_number (is_branch s) _ _ _ (omega arith) (chosen_number (at_only_cause up) (number up + 1) 0 _ (omega arith) (omega arith))

module _ (h : Errors) (span : ℕ) (l : Lawful h span) where
  error_long : (e : FrameError) → length (error_text h e) ≤ 255
  error_long (Host n) = go (h n) refl
    where
      go : (o : Option Error) → h n ≡ o → length (told_text o) ≤ 255
      go None q = omega arith
      go (Some m) q = kind_long m.text (payload_kind m) (l.short n m q)

  host_long : (e : FrameError) → length (host_text h e) ≤ 255
  host_long (Host n) = go (h n) refl
    where
      go : (o : Option Error) → h n ≡ o → length (plain_text o) ≤ 255
      go None q = omega arith
      go (Some m) q = l.short n m q

  head_long : (later : Bool) (n : ℕ) (v : Content) → length (line_text h (head later n v)) ≤ 300
  head_long later n v =
      let a = length-append (cond later (encode_utf8_all (codes "\n")) []) (error_text h v.error ++ cond (eqb n 0) [] caption) in
      let b = length-append (error_text h v.error) (cond (eqb n 0) [] caption) in
      let c = break_long later in
      let d = error_long v.error in
      let m = caption_long in
      let e = chosen (eqb n 0) [] caption 12 (omega arith) (omega arith) in
      omega arith

  cause_long : (x : Cause Content) → length (columns x.path) ≤ 67108864 → number x.path ≤ 67108864 → length (line_text h (cause x)) ≤ 268435756
  cause_long x cols num =
      let m : List ℕ = margin (columns x.path) (continues x) in
      let a = length-append indent (m ++ (label_text (label x) ++ error_text h x.value.error)) in
      let b = length-append m (label_text (label x) ++ error_text h x.value.error) in
      let c = length-append (label_text (label x)) (error_text h x.value.error) in
      let d = indent_long in
      let e = margin_long (columns x.path) (continues x) in
      let f = label_long (number x.path) (no_columns (columns x.path) || (at_branch x.path || (continues x || ltb 0 (number x.path)))) (omega arith) in
      let g = error_long x.value.error in
      omega arith

  both_long : (xs ys : List (Line Content)) → length (lines_text h (xs ++ ys)) ≡ length (lines_text h xs) + length (lines_text h ys)
  both_long xs ys = ap (λ (t : List ℕ). length t) (lines_text-append h xs ys) ∙ length-append (lines_text h xs) (lines_text h ys)

  causes_long : (up : Path) (i : ℕ) (r : Rows Content) → length (columns up) + count r ≤ 67108864 → i + number up + count r ≤ 67108864 → length (lines_text h (cause_lines (causes_of up i r))) ≤ 268435756 * count r
  causes_long up i none cols num = omega arith
  causes_long up i (node v c r) cols num =
      let s : Step = record { index = i; after = width r } in
      let path : Path = s ∷ up in
      let x : Cause Content = record { path = path; causes = width c; value = v } in
      let a = columns_more s up in
      let b = number_more s up in
      let here = cause_long x (omega arith) (omega arith) in
      let beneath = causes_long path 0 c (omega arith) (omega arith) in
      let after = causes_long up (i + 1) r (omega arith) (omega arith) in
      let both = both_long (cause_lines (causes_of path 0 c)) (cause_lines (causes_of up (i + 1) r)) in
      let apart = ap (λ (ls : List (Line Content)). length (lines_text h ls)) (cause_lines-append (causes_of path 0 c) (causes_of up (i + 1) r)) in
      let all = length-append (line_text h (cause x)) (lines_text h (cause_lines (causes_of path 0 c ++ causes_of up (i + 1) r))) in
      omega arith

  report_long : (later : Bool) (r : Rows Content) → count r ≤ 67108864 → length (lines_text h (report_lines later r)) ≤ 268435756 * count r
  report_long later none few = omega arith
  report_long later (node v c r) few =
      let a = head_long later (width c) v in
      let b = causes_long [] 0 c (omega arith) (omega arith) in
      let d = report_long true r (omega arith) in
      let e = both_long (cause_lines (causes_of [] 0 c)) (report_lines true r) in
      let f = length-append (line_text h (head later (width c) v)) (lines_text h (cause_lines (causes_of [] 0 c) ++ report_lines true r)) in
      omega arith

  heads_long : (o : List ℕ) (r : Rows Content) → length o ≤ 255 → count r ≤ 67108864 → length (heads_text h o r) ≤ 18446744073709551615
  heads_long o none short few = omega arith
  heads_long o (node v c r) short few = let a = report_long false (node v c r) few in omega arith

  pub tree_long : (t : Tree) → length (flattening h t) ≤ 67108864 → length (tree_print h t) ≤ 18446744073709551615
  unfolding tree_print
  tree_long t few =
      let a = shown_count (marker h) (nodes_of h t) in
      let b = flattening-length h t in
      heads_long (host_text h t.error) (shown h t) (host_long t.error) (omega arith)
