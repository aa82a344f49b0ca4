use Rattle.std.proofs.Common.{◌≡◌, None, ◌∙◌}
use Rattle.vocabulary.specs.declared.kind.Kind.TheVariants as kind
use Rattle.cases.specs.Spelling.{first_word}
use Rattle.cases.proofs.Statements.{read_again}
use Rattle.cases.proofs.reading.statement.Goals as goal

pub returns-clause-reads : goal.returns-clause-reads
returns-clause-reads c = λ s valid e.
    let again = read_again s c.args.bytes.now (record { kind = kind.Plain; source = None; text = c.text.result }) valid e (λ t is_text behind. c.text.ensures.reads t is_text (c.cut-6.ensures.rest ∙ behind)) in
    let first : c.in_ok-word.field-0 ≡ first_word s = cc (again.first, c.in_ok-word.was) in
    cc (again.whole, first)
