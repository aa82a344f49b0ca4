-- What is seen of nodes, as the code keeps it, and as it is put down beside a node.
use Rattle.vocabulary.specs.declared.frame_error.FrameError.{FrameError}
use Rattle.nodes.specs.declared.node.Note.{Note}
use Rattle.nodes.specs.declared.node.Note.TheVariants.{Clear, Planned, Single as NotedSingle, Several as NotedSeveral}
use Rattle.readings.specs.Seen.{Seen, nothing, single, several}
use Rattle.questions.specs.declared.seen.Seen.{Seen as Kept}
use Rattle.questions.specs.declared.seen.Seen.TheVariants.{Nothing, Single, Several}

abbrev pub meant : Kept → Seen FrameError
meant Nothing = nothing
meant (Single e) = single e
meant Several = several

abbrev pub noted : Note → Seen FrameError
noted Clear = nothing
noted (Planned p) = nothing
noted (NotedSingle e) = single e
noted NotedSeveral = several
