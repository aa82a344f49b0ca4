use Rattle.std.proofs.Common.{sym, subst}
use Rattle.script_runs.specs.Working.{Steps, row_in}
use Rattle.script_runs.proofs.steps.step.Goals as goal

pub returns-in-Chain : goal.returns-in-Chain
returns-in-Chain c = subst (λ l. Steps c.args.place l (row_in c.args.store.now c.args.basket) c.chain.new.store c.chain.result) (sym c.in-Chain.is) (c.chain.ensures c.args.place)

pub returns-in-Drain : goal.returns-in-Drain
returns-in-Drain c = subst (λ l. Steps c.args.place l (row_in c.args.store.now c.args.basket) c.drain.new.store c.drain.result) (sym c.in-Drain.is) (c.drain.ensures c.args.place)

pub returns-in-Drop : goal.returns-in-Drop
returns-in-Drop c = subst (λ l. Steps c.args.place l (row_in c.args.store.now c.args.basket) c.drop_first.new.store c.drop_first.result) (sym c.in-Drop.is) (c.drop_first.ensures c.args.place)
