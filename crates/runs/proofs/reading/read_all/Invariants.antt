use Rattle.std.proofs.Common.{take}
use Rattle.runs.specs.Law.{AllRead}
use Rattle.runs.specs.Session.{state_of}
use Rattle.runs.proofs.reading.read_all.Given as goal

-- the reports so far are read
abbrev pub invariant-loop-root : goal.invariant-loop-root
invariant-loop-root g l =
    AllRead (state_of (g.H.Host.errors l.fn.host) l.fn.session) (g.P.Policy.accepted l.fn.policy) (take l.root-index l.fn.session.reports.names.items) l.readings.items
