use Rattle.std.proofs.Common.{Some, subst}
use Rattle.std.proofs.lemmas.Map.{update_here}
use Rattle.store.specs.Calls.{Discarded}
use Rattle.script_runs.proofs.Held.{basket_is_held, discard_all_ok, discard_ok, report_is_held}
use Rattle.script_runs.proofs.Works.{discarded_works}
use Rattle.script_runs.specs.Working.{none, one}
use Rattle.script_runs.proofs.moves.discard_both.Goals as goal

pub unwrap-requires : goal.unwrap-requires
unwrap-requires c =
    discard_ok c.args.store.now c.discard.new.store c.args.report c.discard.result
    (report_is_held c.args.store.now c.args.basket (one c.args.report.root c.requires.report) none c.requires.row c.requires.works c.args.report c.requires.report c.requires.number (update_here none c.args.report.root (Some c.requires.report))) c.discard.ensures

pub unwrap-requires-2 : goal.unwrap-requires-2
unwrap-requires-2 c =
    let gone = subst (Discarded c.args.store.now c.discard.new.store c.args.report) c.unwrap.ensures c.discard.ensures in
    discard_all_ok c.discard.new.store c.discard-2.new.store c.args.basket c.discard-2.result
    (basket_is_held c.discard.new.store c.args.basket none none c.requires.row (discarded_works c.args.store.now c.discard.new.store c.args.basket c.requires.row c.args.report c.requires.report c.requires.works gone)) c.discard-2.ensures
