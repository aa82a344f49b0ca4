use Rattle.std.proofs.Common.{◌≡◌, length, sym, ap, subst, ◌∙◌}
use Rattle.std.specs.Prelude.{IfSome}
use Rattle.cases.specs.Spelling.{line_text}
use Rattle.cases.specs.Valid.{Gives, IsLine, NoNewline}
use Rattle.cases.proofs.Lines.{no_newline_before, cut_ended, begins}
use Rattle.cases.proofs.reader.next_line.Goals as goal

pub returns-then-bytes-text-clause-none : goal.returns-then-bytes-text-clause-none
returns-then-bytes-text-clause-none c = λ l after valid e.
    let b = begins l c.args.text.now after valid e in
    b.ended (sym (ap length c.cut.ensures.front) ∙ c.if-bytes-text.true)

pub line-requires : goal.line-requires
line-requires c = subst NoNewline (sym c.cut.ensures.front) (no_newline_before c.args.text.now)

pub returns-in_default-clause-none : goal.returns-in_default-clause-none
returns-in_default-clause-none c = λ l after valid e.
    let b = begins l c.args.text.now after valid e in
    subst (λ o. Gives o l) c.in_default.is (c.in_ok-line.ensures.only l valid (c.cut.ensures.front ∙ b.front))

pub returns-clause-found : goal.returns-clause-found
returns-clause-found c =
    let read = subst (λ o. IfSome o (λ l. IsLine l × (c.cut.result.0.now ≡ line_text l))) c.in-Some.is c.in_ok-line.ensures.found in
    let ended = cut_ended c.args.text.now (λ e. c.if-bytes-text.false (ap length c.cut.ensures.front ∙ e)) in
    (read.0, cc (ended, read.1))
