use Rattle.std.proofs.Common.{refl}
use Rattle.runs.specs.Session.{state_of}
use Rattle.runs.proofs.run.run.Goals as goal

pub returns : goal.returns
returns g c = record {
  first = state_of (g.H.Host.errors c.args.host.now) c.in_ok-session.session;
  last = state_of (g.H.Host.errors c.answer_all.new.host) c.answer_all.new.session;
  starts = c.in_ok-session.ensures.starts _;
  ran = c.in_ok-answers.ensures.ran;
  ends = refl;
  readings = c.in_ok-readings.ensures;
}
