use Rattle.runs.proofs.session.Session.discard_basket.Goals as goal
use Rattle.runs.proofs.Standing.{discard_all_stands}

pub returns-in-Ok-clause-stands : goal.returns-in-Ok-clause-stands
returns-in-Ok-clause-stands c = λ h r. discard_all_stands h _ _ c.in_ok-basket.basket r c.in-Ok.ensures
