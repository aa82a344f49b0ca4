use Rattle.std.proofs.Common.{refl, sym, ◌∙◌}
use Rattle.script_lines.specs.Spelling.{line_text}
use Rattle.script_lines.proofs.Lines.{cut_once, no_newline, plain_line}
use Rattle.script_lines.proofs.reading.next_line.Goals as goal

pub returns-in_err-bytes-clause-none : goal.returns-in_err-bytes-clause-none
returns-in_err-bytes-clause-none c = λ missing l after b. no_newline c.args.script.now (line_text l) after (c.in_err-bytes.ensures.none refl) b.parts

pub returns-in_err-line-clause-none : goal.returns-in_err-line-clause-none
returns-in_err-line-clause-none c = λ missing l after b.
    let found = c.in_ok-bytes.ensures.found in
    let cut = cut_once c.in_ok-bytes.bytes.now (line_text l) c.in_ok-bytes.after.now after found.1 (plain_line l b.is_line) (sym found.0 ∙ b.parts) in
    let read = c.in_err-line.ensures.only l b.is_line cut.front in
    absurd cc
