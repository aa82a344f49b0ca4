use mathlib.Core.Logic.{∥∥₁_map}
use Rattle.prints.proofs.Alive.{flat_live, live_alike}
use Rattle.prints.proofs.report.print_nodes.Goals as goal

pub print_planned-printed-requires : goal.print_planned-printed-requires
print_planned-printed-requires g c = ∥∥₁_map c.requires.flat (λ f. (f.0, c.plan-count.ensures.planned f.0 f.1.lists))

pub returns-clause-printed : goal.returns-clause-printed
returns-clause-printed g c = λ t w.
    c.print_planned-printed.ensures t (c.plan-count.ensures.planned t w.lists)
    (live_alike _ _ _ c.plan-count.ensures.same (flat_live _ _ (g.met.H.Host.lawful c.args.host.now) c.args.nodes.now (t, w)))
