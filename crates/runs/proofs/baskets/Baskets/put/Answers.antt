use Rattle.runs.proofs.baskets.Baskets.put.Goals as goal
use Rattle.runs.proofs.Standing.{discard_all_ok}

pub returns-in-None-clause-stands : goal.returns-in-None-clause-stands
returns-in-None-clause-stands c = λ h. discard_all_ok h _ _ c.args.basket _ c.discard.ensures c.unwrap.ensures
