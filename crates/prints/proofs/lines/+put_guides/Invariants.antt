use Rattle.prints.proofs.Guides.{height}
use Rattle.prints.proofs.lines.+put_guides.Given as goal

abbrev pub decreases-put_guides : goal.decreases-put_guides
decreases-put_guides l = height l.level
