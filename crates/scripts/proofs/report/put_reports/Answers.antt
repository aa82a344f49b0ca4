use Rattle.std.proofs.Common.{[], ◌++◌, refl, sym, ap, ◌∙◌, subst, arith}
use Rattle.trees.specs.Trees.{frames}
use Rattle.store.specs.Calls.{Discarded}
use Rattle.buffers.proofs.Printed.{nothing_put}
use Rattle.script_runs.proofs.Held.{basket_is_held, discard_all_ok, discard_ok, row_is}
use Rattle.script_runs.proofs.Lines.{first_out, none_out}
use Rattle.script_runs.proofs.Works.{discarded_works}
use Rattle.script_runs.specs.Working.{Rests, none, row_in}
use Rattle.scripts.proofs.Putting.{◌and◌, printed_of}
use Rattle.scripts.proofs.Reports.{put_all, put_less, put_more, row_text_is, standing, taken_held}
use Rattle.scripts.specs.Puts.{tree_in}
use Rattle.scripts.specs.Texts.{report_text, row_text}
use Rattle.scripts.proofs.report.put_reports.Goals as goal

pub loop-report-init : goal.loop-report-init
loop-report-init c = record { rests = c.requires; room = omega arith; put = ([], nothing_put 0 c.args.out.now (omega arith), refl) }

pub take-requires : goal.take-requires
take-requires c = basket_is_held c.loop-report.store c.loop-report.basket none none _ c.loop-report.invariant.rests

pub put_report-printed-requires-clause-report : goal.put_report-printed-requires-clause-report
put_report-printed-requires-clause-report c =
    let s = c.take.new.store in
    let b = c.take.new.basket in
    let row = row_in c.loop-report.store c.loop-report.basket in
    let out = first_out s b none none row c.take.result c.in-Some.report (c.take.ensures.works none none row c.loop-report.invariant.rests) c.in-Some.is in
    standing s b row c.in-Some.report out

pub put_report-printed-requires-clause-room : goal.put_report-printed-requires-clause-room
put_report-printed-requires-clause-room c =
    let long = c.loop-report.invariant.put.1.long in
    (omega (arith, long, c.told-out, c.loop-report.invariant.room), omega (arith, long, c.told-out))

pub unwrap-requires : goal.unwrap-requires
unwrap-requires c =
    let s = c.take.new.store in
    let b = c.take.new.basket in
    let row = row_in c.loop-report.store c.loop-report.basket in
    let out = first_out s b none none row c.take.result c.in-Some.report (c.take.ensures.works none none row c.loop-report.invariant.rests) c.in-Some.is in
    discard_ok s c.discard.new.store c.in-Some.report c.discard.result (taken_held s b row c.in-Some.report out) c.discard.ensures

pub unwrap-requires-2 : goal.unwrap-requires-2
unwrap-requires-2 c =
    let s = c.take.new.store in
    let b = c.take.new.basket in
    let row = row_in c.loop-report.store c.loop-report.basket in
    let left = none_out s b none none row c.take.result (c.take.ensures.works none none row c.loop-report.invariant.rests) c.in_default.is in
    discard_all_ok s c.discard-2.new.store b c.discard-2.result (basket_is_held s b none none row left.1) c.discard-2.ensures

pub unwrap-requires-in_default-printed : goal.unwrap-requires-in_default-printed
unwrap-requires-in_default-printed c =
    let s = c.take.new.store in
    let b = c.take.new.basket in
    let row = row_in c.loop-report.store c.loop-report.basket in
    let out = first_out s b none none row c.take.result c.in-Some.report (c.take.ensures.works none none row c.loop-report.invariant.rests) c.in-Some.is in
    let left = discarded_works s c.discard.new.store b out.rest c.in-Some.report out.first out.works (subst (Discarded s c.discard.new.store c.in-Some.report) c.unwrap.ensures c.discard.ensures) in
    discard_all_ok c.discard.new.store c.discard-in_default-printed.new.store b c.discard-in_default-printed.result (basket_is_held c.discard.new.store b none none out.rest left) c.discard-in_default-printed.ensures

pub returns-in_default-printed : goal.returns-in_default-printed
returns-in_default-printed c =
    let s = c.take.new.store in
    let b = c.take.new.basket in
    let row = row_in c.loop-report.store c.loop-report.basket in
    let out = first_out s b none none row c.take.result c.in-Some.report (c.take.ensures.works none none row c.loop-report.invariant.rests) c.in-Some.is in
    let before = c.loop-report.invariant.put in
    put_less c.loop-report.at (row_text (row_in c.args.store.now c.args.basket)) before.0 (report_text (tree_in s c.in-Some.report)) (row_text out.rest) (row_text row) c.args.out.now c.loop-report.out c.put_report-printed.new.out
    before.1 c.loop-report.invariant.room c.told-out before.2 (row_text_is s b row c.in-Some.report out) c.in_default-printed.ensures

pub loop-report-preserved : goal.loop-report-preserved
loop-report-preserved c =
    let s = c.take.new.store in
    let b = c.take.new.basket in
    let row = row_in c.loop-report.store c.loop-report.basket in
    let out = first_out s b none none row c.take.result c.in-Some.report (c.take.ensures.works none none row c.loop-report.invariant.rests) c.in-Some.is in
    let left = discarded_works s c.discard.new.store b out.rest c.in-Some.report out.first out.works (subst (Discarded s c.discard.new.store c.in-Some.report) c.unwrap.ensures c.discard.ensures) in
    let before = c.loop-report.invariant.put in
    let now = row_is c.discard.new.store b none none out.rest left in
    let text = report_text (tree_in s c.in-Some.report) in
    let long = before.1.long in
    let put = printed_of c.loop-report.at c.in-Some-printed.to text c.loop-report.out c.put_report-printed.new.out (omega (arith, long, c.told-out, c.loop-report.invariant.room)) (omega (arith, long, c.told-out)) c.put_report-printed.auto.out c.in-Some-printed.ensures in
    record {
      rests = subst (Rests c.discard.new.store b) (sym now) left;
      room = omega (arith, long, c.told-out, c.in-Some-printed.ensures.1);
      put = (
        before.0 ++ text,
        before.1 and put,
        put_more (row_text (row_in c.args.store.now c.args.basket)) before.0 text (row_text (row_in c.discard.new.store b)) (row_text row) before.2 (row_text_is s b row c.in-Some.report out ∙ ap (λ f. text ++ row_text f) (sym now)),
      );
    }

pub loop-report-smaller : goal.loop-report-smaller
loop-report-smaller c =
    let s = c.take.new.store in
    let b = c.take.new.basket in
    let row = row_in c.loop-report.store c.loop-report.basket in
    let out = first_out s b none none row c.take.result c.in-Some.report (c.take.ensures.works none none row c.loop-report.invariant.rests) c.in-Some.is in
    let left = discarded_works s c.discard.new.store b out.rest c.in-Some.report out.first out.works (subst (Discarded s c.discard.new.store c.in-Some.report) c.unwrap.ensures c.discard.ensures) in
    let before = ap frames out.parts in
    let now = ap frames (row_is c.discard.new.store b none none out.rest left) in
    omega (arith, before, now)

pub returns : goal.returns
returns c =
    let s = c.take.new.store in
    let b = c.take.new.basket in
    let row = row_in c.loop-report.store c.loop-report.basket in
    let left = none_out s b none none row c.take.result (c.take.ensures.works none none row c.loop-report.invariant.rests) c.in_default.is in
    let before = c.loop-report.invariant.put in
    put_all c.loop-report.at (row_text (row_in c.args.store.now c.args.basket)) before.0 (row_text row) c.args.out.now c.loop-report.out before.1 c.loop-report.invariant.room c.told-out before.2 (ap row_text left.0)
