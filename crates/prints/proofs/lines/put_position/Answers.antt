use mathlib.Core.Logic.{∥∥₁_map}
use Rattle.std.proofs.Common.{◌≡◌, ℕ, Bool, ◌||◌, List, ◌++◌, sym, ap, ◌∙◌, subst}
use Rattle.nodes.specs.declared.node.Position.{Position}
use Rattle.print_forms.specs.Prints.{connector, guides, indent, label_text}
use Rattle.line_plans.specs.Plans.{Stands}
use Rattle.buffers.specs.Printed.{Printed}
use Rattle.buffers.proofs.Printed.{together}
use Rattle.prints.proofs.Positions.{main_before, nested_before}
use Rattle.prints.proofs.lines.put_position.Goals.{then-sibling_follows, else-sibling_follows}
use Rattle.prints.proofs.lines.put_position.Goals as goal

pub put_guides-at-requires : goal.put_guides-at-requires
put_guides-at-requires c =
    ∥∥₁_map c.requires (λ r.
    let n = nested_before c.args.nodes.now r.0 c.in-Nested.number c.in-Nested.above c.in-Nested.sibling_follows c.in-Nested.chain_continues r.1 (subst (λ (p : Position). Stands c.args.nodes.now r.0 p r.1) c.in-Nested.is r.2) in
    (r.0, n.0, n.1))

pub returns-in-Main : goal.returns-in-Main
returns-in-Main c = λ k x s.
    subst (Printed c.args.at c.put_label.result c.args.out.now c.put_label.new.out) (sym (main_before c.args.nodes.now k c.in-Main.number x (subst (λ (p : Position). Stands c.args.nodes.now k p x) c.in-Main.is s)))
    (together _ _ _ _ _ _ _ _ c.put_indent-at.ensures c.put_label.ensures)

pub returns-after-sibling_follows : goal.returns-after-sibling_follows
returns-after-sibling_follows c = λ k x s.
    let n = nested_before c.args.nodes.now k c.in-Nested.number c.in-Nested.above c.in-Nested.sibling_follows c.in-Nested.chain_continues x (subst (λ (p : Position). Stands c.args.nodes.now k p x) c.in-Nested.is s) in
    let more : c.if-sibling_follows.more ≡ (c.in-Nested.sibling_follows || c.in-Nested.chain_continues) =
    elim c.if-sibling_follows.branch [
      | then-sibling_follows w ↦ w.more-is ∙ w.if-sibling_follows.true ∙ sym (ap (λ (b : Bool). b || c.in-Nested.chain_continues) w.if-sibling_follows.true)
      | else-sibling_follows w ↦ w.more-is ∙ sym (ap (λ (b : Bool). b || c.in-Nested.chain_continues) w.if-sibling_follows.false)
    ] in
    subst (Printed c.args.at c.put_nested_label.result c.args.out.now c.put_nested_label.new.out)
    (ap (λ (t : List ℕ). indent ++ (guides n.0 ++ (t ++ label_text c.in-Nested.number))) (c.as_bytes-in-Nested.ensures.value ∙ c.connector.ensures ∙ ap connector more) ∙ sym n.2)
    (together _ _ _ _ _ _ _ _ c.put_indent-at-in-Nested.ensures (together _ _ _ _ _ _ _ _ (c.put_guides-at.ensures k n.0 n.1) (together _ _ _ _ _ _ _ _ c.put-at.ensures.printed c.put_nested_label.ensures)))
