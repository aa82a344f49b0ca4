use Rattle.std.proofs.Common.{Ok, rules}
use Rattle.store.proofs.Reached.{rebuilt_by}
use Rattle.store.specs.Chains.{Rebuilt}
use Rattle.store.specs.declared.store.Store.{Store}
use Rattle.store.proofs.chain.ChainedError.into_exn.Goals as goal

pub returns-in_err-root-clause-reached : goal.returns-in_err-root-clause-reached
returns-in_err-root-clause-reached g c =
    let after : Store = c.rebuild.new.self in
    let b : Rebuilt c.args.store.now after (g.H.Host.errors c.args.host.now) c.args.self c.args.list.now c.from_residual.result = search rules in
    rebuilt_by c.args.store.now after _ c.args.self c.args.list.now c.from_residual.result b

pub returns-clause-reached : goal.returns-clause-reached
returns-clause-reached g c =
    let after : Store = c.rebuild.new.self in
    let b : Rebuilt c.args.store.now after (g.H.Host.errors c.args.host.now) c.args.self c.args.list.now (Ok c.token.result) = search rules in
    rebuilt_by c.args.store.now after _ c.args.self c.args.list.now (Ok c.token.result) b
