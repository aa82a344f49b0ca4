use Rattle.runs.proofs.session.Session.new.Goals as goal
use Rattle.runs.proofs.Chains.{empty_stands, first_made}

pub unwrap-foreign-requires : goal.unwrap-foreign-requires
unwrap-foreign-requires c = first_made _ _ c.new-3.result c.new-other.ensures.empty c.new-3.ensures

pub returns-clause-stands : goal.returns-clause-stands
returns-clause-stands c = λ h. empty_stands h _ c.new-4.ensures.empty
