use Rattle.questions.specs.Never.{never}
use Rattle.questions.proofs.Nodes.{class_made}
use Rattle.questions.proofs.chain.dominant_class.Goals as goal

pub returns : goal.returns
returns g c = class_made _ _ never _ c.in_ok-findings.ensures
