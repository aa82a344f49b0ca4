use Rattle.rebuilding.proofs.JoinFirst.{joined_first}
use Rattle.rebuilding.proofs.build.join_first.Goals as goal

pub returns-in-Some : goal.returns-in-Some
returns-in-Some c = joined_first _ _ _ _ c.args.x c.args.y c.requires.first c.requires.second c.requires.apart c.in-Some.head c.in-Some.ensures c.join.ensures c.join_row.ensures
