use Rattle.prints.proofs.Alive.{flat_live}
use Rattle.prints.proofs.Flat.{chain_printed, nonempty}
use Rattle.prints.proofs.chain.print.Goals as goal

pub print_errors-requires : goal.print_errors-requires
print_errors-requires g c = nonempty _ _ c.in_ok-check_flattening.ensures

pub returns : goal.returns
returns g c =
    chain_printed (g.H.Host.errors c.args.host.now) c.args.form _ _ c.front-nodes.ensures c.in_ok-check_flattening.ensures c.args.out.now c.print_errors.new.out c.print_errors.result
    (c.print_errors.ensures (flat_live _ _ (g.met.H.Host.lawful c.args.host.now) _ c.in_ok-check_flattening.ensures))
