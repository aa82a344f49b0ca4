use Rattle.layers.specs.LayerLaws.{add_errors, add_table}
use Rattle.layers.proofs.layer.Layer.wrap.Goals as goal

pub invariant_of-self : goal.invariant_of-self
invariant_of-self g c =
    record {
      table = add_table (g.H.Host.errors c.args.self.now.lower) _ _ _ _ _ c.in_ok-kind.ensures c.in_ok-kind-2.ensures c.foot.ensures c.rest-foot.ensures c.push.ensures.answered c.push.ensures.pushed c.args.self.now.table (g.met.K.EntryKind.wraps c.args.number);
    }

pub returns-clause-errors : goal.returns-clause-errors
returns-clause-errors g c = add_errors _ _ _ _ _ _ c.in_ok-kind.ensures c.in_ok-kind-2.ensures c.foot.ensures c.rest-foot.ensures c.push.ensures.answered c.push.ensures.pushed
