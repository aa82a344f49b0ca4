use Rattle.script_runs.proofs.Held.{collect_ok}
use Rattle.script_runs.proofs.Works.{collected_if, collected_number}
use Rattle.script_runs.proofs.moves.collect.Goals as goal

pub unwrap-requires : goal.unwrap-requires
unwrap-requires c = collect_ok c.args.store.now c.collect.new.store c.args.basket.now c.collect.new.self c.args.report c.collect.result c.requires.basket c.requires.report c.collect.ensures

pub returns-clause-number : goal.returns-clause-number
returns-clause-number c = collected_number c.args.store.now c.collect.new.store c.args.basket.now c.collect.new.self c.args.report c.collect.result c.collect.ensures c.unwrap.ensures

pub returns-clause-works : goal.returns-clause-works
returns-clause-works c = λ g others row t w e. collected_if c.args.store.now c.collect.new.store c.args.basket.now c.collect.new.self c.args.report g others row t c.collect.result c.collect.ensures c.unwrap.ensures w e
