use Rattle.runs.proofs.session.Session.discard.Goals as goal
use Rattle.runs.proofs.Standing.{discard_stands}

pub returns-in-Ok-clause-stands : goal.returns-in-Ok-clause-stands
returns-in-Ok-clause-stands c = λ h r. discard_stands h _ _ c.in_ok-report.report r c.in-Ok.ensures
