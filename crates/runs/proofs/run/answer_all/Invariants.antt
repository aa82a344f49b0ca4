use Rattle.runs.specs.Law.{Ran}
use Rattle.runs.specs.Session.{Stands, state_of}
use Rattle.runs.proofs.run.answer_all.Given as goal

-- the events so far are answered
abbrev pub invariant-loop-event : goal.invariant-loop-event
invariant-loop-event g l = record {
  ran : Ran (state_of (g.H.Host.errors l.fn.host) l.fn.session) l.yielded l.answers.items (state_of (g.H.Host.errors l.host) l.session);
  stands : Stands (g.H.Host.errors l.host) l.session;
}
