use Rattle.store.specs.Reached.{gains}
use Rattle.runs.proofs.run.answer.Goals as goal

-- calls have led to the store, whatever the host has gained
pub returns-in-Gain-clause-stands : goal.returns-in-Gain-clause-stands
returns-in-Gain-clause-stands g c = gains _ _ _ _ c.requires c.add.ensures.extends
