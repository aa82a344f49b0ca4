use Rattle.std.proofs.Common.{List, ℕ, ◌-◌, ◌++◌, ap, ◌∙◌, sym, subst}
use Rattle.print_forms.specs.Prints.{indent, numbered}
use Rattle.buffers.specs.Printed.{Printed}
use Rattle.buffers.proofs.Printed.{together}
use Rattle.prints.specs.ChainPrints.{separator}
use Rattle.prints.proofs.Errors.{line_separator}
use Rattle.prints.proofs.chain.put_separator.Goals as goal

pub returns-in-Lines : goal.returns-in-Lines
returns-in-Lines c =
    let all = together _ _ _ _ _ _ _ _ c.put-at.ensures.printed (together _ _ _ _ _ _ _ _ c.put_indent-at.ensures c.put_label.ensures) in
    subst (Printed c.args.at c.put_label.result c.args.out.now c.put_label.new.out)
    (ap (λ (x : List ℕ). x ++ (indent ++ numbered (c.args.before - 1))) (c.as_bytes.ensures.value ∙ c.caption_over.ensures) ∙ line_separator c.args.before c.if-before-eq0.false ∙ ap (λ f. separator f c.args.before) (sym c.in-Lines.is))
    all
