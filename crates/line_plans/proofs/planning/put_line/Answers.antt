use Rattle.std.proofs.Common.{◌≢◌, ap, arith, get_or-set_other}
use Rattle.std.proofs.Math.Seq.{map-set_same}
use Rattle.nodes.specs.declared.node.Node.{Node}
use Rattle.nodes.specs.Check.{blank}
use Rattle.shown_links.specs.Linked.{plan_in}
use Rattle.line_plans.specs.Plans.{unlined}
use Rattle.line_plans.proofs.planning.put_line.Goals as goal

pub returns-clause-others : goal.returns-clause-others
returns-clause-others c = record {
  nodes = map-set_same unlined c.args.nodes.now c.args.at _ blank (rw c.plan_in.ensures);
  lines = λ j lt. let ne : j ≢ c.args.at = omega arith in ap (λ (x : Node). (plan_in x.note).line) (get_or-set_other c.args.nodes.now c.args.at j _ blank ne);
}
