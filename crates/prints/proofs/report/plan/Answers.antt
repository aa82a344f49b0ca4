use mathlib.Core.Logic.{∥∥₁_map}
use Rattle.std.proofs.Common.{◌≡◌, ◌≤◌, length, map, List, sym, ap, ◌∙◌}
use Rattle.trees.specs.Trees.{Tree}
use Rattle.nodes.specs.declared.node.Node.{Node}
use Rattle.nodes.specs.Flattening.{flattening}
use Rattle.nodes.specs.Rows.{count}
use Rattle.nodes.specs.Notes.{cleared}
use Rattle.print_forms.specs.Shown.{shown}
use Rattle.shown_links.specs.Linked.{Linked, marked}
use Rattle.shown_links.proofs.Alike.{alike_length}
use Rattle.prints.proofs.Planned.{cleared_lines, cleared_marks, enough, tree_planned}
use Rattle.prints.proofs.report.plan.Given.{Over}
use Rattle.prints.proofs.report.plan.Goals.{After-link-heads}
use Rattle.prints.proofs.report.plan.Goals as goal

pub link-heads-requires-clause-marked : goal.link-heads-requires-clause-marked
link-heads-requires-clause-marked g c =
    let h = g.H.Host.errors c.args.host.now in
    ∥∥₁_map c.requires.flat (λ f. (h, (f.0, c.mark.ensures ∙ ap (map (marked h)) (sym f.1.lists))))

-- the links leave the nodes as they are
linked_same : (g : Over) (c : After-link-heads g) → map cleared c.link-heads.new.nodes ≡ map cleared c.args.nodes.now
linked_same g c = c.link-heads.ensures.same ∙ ap (map cleared) c.mark.ensures ∙ cleared_marks _ _

-- what is shown of the tree is linked, and the list has room for it
linked : (g : Over) (c : After-link-heads g) (t : Tree) → flattening (g.H.Host.errors c.args.host.now) t ≡ c.args.nodes.now
    → Linked c.link-heads.new.nodes c.link-heads.result (shown (g.H.Host.errors c.args.host.now) t) × (count (shown (g.H.Host.errors c.args.host.now) t) ≤ length c.link-heads.new.nodes)
linked g c t is =
    let h = g.H.Host.errors c.args.host.now in
    let long : length c.link-heads.new.nodes ≡ length c.args.nodes.now = alike_length cleared _ _ (linked_same g c) in
    (c.link-heads.ensures.links h t (c.mark.ensures ∙ ap (map (marked h)) (sym is)), enough h t c.link-heads.new.nodes (long ∙ ap (λ (xs : List Node). length xs) (sym is)))

pub plan_lines-requires-clause-linked : goal.plan_lines-requires-clause-linked
plan_lines-requires-clause-linked g c =
    let h = g.H.Host.errors c.args.host.now in
    ∥∥₁_map c.requires.flat (λ f. let l = linked g (goal.at.plan_lines-requires-clause-linked g c).After-link-heads f.0 f.1.lists in (shown h f.0, l))

pub returns-clause-same : goal.returns-clause-same
returns-clause-same g c = cleared_lines _ _ 0 c.plan_lines.ensures.nodes ∙ linked_same g (goal.at.returns-clause-same g c).After-link-heads

pub returns-clause-planned : goal.returns-clause-planned
returns-clause-planned g c = λ t is.
    let h = g.H.Host.errors c.args.host.now in
    let at = (goal.at.returns-clause-planned g c).After-link-heads in
    let l = linked g at t is in
    tree_planned h t c.args.nodes.now _ _ is (cleared_lines _ _ 0 c.plan_lines.ensures.nodes ∙ linked_same g at) (c.plan_lines.ensures.lines (shown h t) l.0 l.1)
