use Rattle.store.proofs.Rows.{chains_none}
use Rattle.store.proofs.root.OptionU16Root.join.Goals as goal

-- without a row nothing changes
pub returns-in_default : goal.returns-in_default
returns-in_default c = chains_none c.args.store.now c.args.root c.args.self c.in_default.is
