use Rattle.std.proofs.Common.{◌≡◌, ◌<◌, length}
use Rattle.questions.proofs.Orders.{OrderGathered}
use Rattle.questions.proofs.report.order_cause.Given as goal

abbrev pub invariant-loop-i : goal.invariant-loop-i
invariant-loop-i g l = record {
  low : 0 < length l.order → 0 < l.i;
  long : length l.gathered ≡ g.row.N;
  gathered : OrderGathered (g.H.Host.errors l.host) l.order l.i l.gathered;
}
