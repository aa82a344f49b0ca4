use Rattle.std.proofs.Common.{◌≡◌, not, count_by, sym, ◌∙◌, rules}
use Rattle.nodes.specs.declared.node.Node.{Node}
use Rattle.nodes.proofs.Explicit.{explicit_by}
use Rattle.checks.proofs.check.explicit_nodes.Goals as goal

pub returns : goal.returns
returns c =
    let counted : c.count.result ≡ count_by (λ (x : Node). not x.native) c.args.nodes.now = search rules in
    counted ∙ sym (explicit_by c.args.nodes.now)
