use Rattle.std.proofs.Common.{ℕ, get_or, ap, ◌∙◌}
use Rattle.model.specs.Sources.{source_of}
use Rattle.traversal.specs.Spread.{error_source}
use Rattle.traversal.specs.Start.{blank_node}
use Rattle.traversal.proofs.Lists.{source_some}
use Rattle.traversal.proofs.flatten.append_source.Goals as goal

pub returns : goal.returns
returns g c =
    let x = get_or c.args.list.now c.args.i blank_node in
    source_some c.args.list.now c.args.start c.args.i x.place (error_source (g.H.Host.errors c.args.host.now) x.error) c.source_of.result c.in-Some.source (c.source_of.ensures ∙ ap (λ (n : ℕ). source_of (g.H.Host.errors c.args.host.now n)) c.number.ensures) c.in-Some.is c.requires.room
