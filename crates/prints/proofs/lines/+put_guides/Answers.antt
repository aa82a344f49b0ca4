use mathlib.Core.Logic.{∥∥₁_elim, ∥∥₁_map}
use native.Mathlib.Bridge.{le_prop}
use Rattle.std.proofs.Common.{ℕ, Bool, List, ◌++◌, sym, ap, ◌∙◌, subst, arith, rules}
use Rattle.print_forms.specs.Prints.{guides}
use Rattle.buffers.specs.Printed.{Printed}
use Rattle.buffers.proofs.Printed.{nothing_put, together}
use Rattle.prints.proofs.Guides.{next_column, no_column}
use Rattle.prints.proofs.lines.+put_guides.Goals as goal

pub returns-in_default : goal.returns-in_default
returns-in_default t c = λ k cs a.
    subst (λ (ds : List Bool). Printed c.args.at c.args.at c.args.out.now c.args.out.now (guides ds))
    (sym (no_column c.args.nodes.now k c.args.level cs a (sym c.column_at.ensures ∙ c.in_default.is)))
    (nothing_put c.args.at c.args.out.now (search rules))

pub put_guides-at-requires : goal.put_guides-at-requires
put_guides-at-requires t c =
    let next = next_column c.args.nodes.now in
    let seen = sym c.column_at.ensures ∙ c.in-Some.is in
    let measure = c.decreases in (
      ∥∥₁_elim c.requires le_prop (λ r. let less = (next r.0 c.args.level r.1 r.2 c.in-Some.follows c.in-Some.above seen).4 in omega arith),
      ∥∥₁_map c.requires (λ r. let n = next r.0 c.args.level r.1 r.2 c.in-Some.follows c.in-Some.above seen in (n.0, n.1, n.3)),
    )

pub returns : goal.returns
returns t c = λ k cs a.
    let n = next_column c.args.nodes.now k c.args.level cs a c.in-Some.follows c.in-Some.above (sym c.column_at.ensures ∙ c.in-Some.is) in
    subst (Printed c.args.at c.put.result c.args.out.now c.put.new.out) (ap (λ (x : List ℕ). guides n.1 ++ x) (c.as_bytes.ensures.value ∙ c.guide.ensures) ∙ sym (ap guides n.2))
    (together _ _ _ _ _ _ _ _ (c.put_guides-at.ensures n.0 n.1 n.3) c.put.ensures.printed)
