use Rattle.small_prints.proofs.shapes.+rows.Given as goal

abbrev pub decreases-rows : goal.decreases-rows
decreases-rows l = l.frames
