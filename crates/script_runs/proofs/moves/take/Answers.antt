use Rattle.script_runs.proofs.Held.{take_ok}
use Rattle.script_runs.proofs.Works.{taken_from, taken_number}
use Rattle.script_runs.proofs.moves.take.Goals as goal

pub unwrap-requires : goal.unwrap-requires
unwrap-requires c = take_ok c.args.store.now c.take.new.store c.args.basket.now c.take.new.self c.take.result c.requires c.take.ensures

pub returns-clause-number : goal.returns-clause-number
returns-clause-number c = taken_number c.args.store.now c.take.new.store c.args.basket.now c.take.new.self c.unwrap.result c.take.result c.take.ensures c.unwrap.ensures

pub returns-clause-works : goal.returns-clause-works
returns-clause-works c = λ g others row w. taken_from c.args.store.now c.take.new.store c.args.basket.now c.take.new.self g others row w c.unwrap.result c.take.result c.take.ensures c.unwrap.ensures
