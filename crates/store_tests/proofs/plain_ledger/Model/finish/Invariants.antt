use Rattle.store_tests.proofs.plain_ledger.Model.finish.Given as goal

-- each round takes a report out
abbrev pub decreases-reports : goal.decreases-reports
decreases-reports g l = goal.left-reports g l

-- or a basket
abbrev pub decreases-rows : goal.decreases-rows
decreases-rows g l = goal.left-rows g l
