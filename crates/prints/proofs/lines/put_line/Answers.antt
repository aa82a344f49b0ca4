use mathlib.Core.Logic.{∥∥₁_elim, ∥∥₁_map}
use native.Mathlib.Bridge.{le_prop}
use Rattle.std.proofs.Common.{ℕ, List, ◌++◌, sym, ap, ap₂, ◌∙◌, subst}
use Rattle.nodes.specs.Nodes.{Content}
use Rattle.print_forms.specs.Shown.{error_text}
use Rattle.buffers.specs.Printed.{Printed}
use Rattle.buffers.proofs.Printed.{together}
use Rattle.prints.specs.LineTexts.{before_text}
use Rattle.prints.proofs.Positions.{behind_is, parts, planned_line}
use Rattle.prints.proofs.lines.put_line.Goals as goal

pub put_position-at-requires : goal.put_position-at-requires
put_position-at-requires g c =
    ∥∥₁_map c.requires (λ r. (c.args.index, r.0, (planned_line c.args.nodes.now c.args.index r.0 r.1 _ (sym c.line_at.ensures ∙ c.in-Some.is)).2))

pub bounds-nodes-node : goal.bounds-nodes-node
bounds-nodes-node g c =
    ∥∥₁_elim c.requires le_prop (λ r. (planned_line c.args.nodes.now c.args.index r.0 r.1 _ (sym c.line_at.ensures ∙ c.in-Some.is)).0)

pub returns : goal.returns
returns g c = λ x p.
    let h = g.H.Host.errors c.args.host.now in
    let l = planned_line c.args.nodes.now c.args.index x p _ (sym c.line_at.ensures ∙ c.in-Some.is) in
    subst (Printed c.args.at c.put.result c.args.out.now c.put.new.out)
    (ap₂ (λ (e b : List ℕ). before_text x ++ (e ++ b)) (ap (λ (v : Content). error_text h v.error) l.1) (c.as_bytes.ensures.value ∙ c.caption_after.ensures ∙ behind_is c.args.nodes.now c.args.index _ x l.2) ∙ parts h x)
    (together _ _ _ _ _ _ _ _ (c.put_position-at.ensures c.args.index x l.2) (together _ _ _ _ _ _ _ _ c.in_ok-at.ensures.1 c.put.ensures.printed))
