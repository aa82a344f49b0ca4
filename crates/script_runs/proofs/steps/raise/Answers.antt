use Rattle.std.proofs.Common.{Some}
use Rattle.std.proofs.lemmas.Map.{update_here}
use Rattle.trees.specs.Trees.{◌then◌, only}
use Rattle.script_runs.proofs.Held.{basket_is_held, discard_all_ok, report_is_held}
use Rattle.script_runs.proofs.Works.{raised_works}
use Rattle.script_runs.proofs.Lines.{first_out, is_there, none_out, none_raise, out_back, raise_granted, raise_refused, rests}
use Rattle.script_runs.specs.Steps.{over}
use Rattle.script_runs.specs.Working.{none, one, row_in}
use Rattle.script_runs.proofs.steps.raise.Goals as goal

pub take-requires : goal.take-requires
take-requires c = basket_is_held c.args.store.now c.args.basket none none _ c.requires

pub unwrap-requires : goal.unwrap-requires
unwrap-requires c =
    let row = row_in c.args.store.now c.args.basket in
    let left = none_out c.take.new.store c.take.new.basket none none row c.take.result (c.take.ensures.works none none row c.requires) c.in_default.is in
    discard_all_ok c.take.new.store c.discard.new.store c.take.new.basket c.discard.result (basket_is_held c.take.new.store c.take.new.basket none none row left.1) c.discard.ensures

pub returns-in_default : goal.returns-in_default
returns-in_default c =
    let row = row_in c.args.store.now c.args.basket in
    let left = none_out c.take.new.store c.take.new.basket none none row c.take.result (c.take.ensures.works none none row c.requires) c.in_default.is in
    none_raise c.args.place c.args.error row left.0

pub collect-requires-clause-basket : goal.collect-requires-clause-basket
collect-requires-clause-basket c =
    let row = row_in c.args.store.now c.args.basket in
    let out = first_out c.take.new.store c.take.new.basket none none row c.take.result c.in-Some.first (c.take.ensures.works none none row c.requires) c.in-Some.is in
    basket_is_held c.raise.new.store c.take.new.basket _ none _
    (raised_works c.take.new.store c.raise.new.store c.take.new.basket out.rest c.in-Some.first out.first c.args.error c.args.place c.in-Ok.raised out.works c.in-Ok.ensures)

pub discard_both-requires : goal.discard_both-requires
discard_both-requires c =
    let s = c.take.new.store in
    let b = c.take.new.basket in
    let row = row_in c.args.store.now c.args.basket in
    let out = first_out s b none none row c.take.result c.in-Some.first (c.take.ensures.works none none row c.requires) c.in-Some.is in
    out_back s b row c.in-Some.first out c.raise.new.store c.in-Err.field-0.given c.in-Err.ensures.0.same c.in-Err.ensures.1

pub returns-in-Ok : goal.returns-in-Ok
returns-in-Ok c =
    let s = c.take.new.store in
    let b = c.take.new.basket in
    let row = row_in c.args.store.now c.args.basket in
    let out = first_out s b none none row c.take.result c.in-Some.first (c.take.ensures.works none none row c.requires) c.in-Some.is in
    let raised = over c.args.error c.args.place (only out.first) in
    let works = raised_works s c.raise.new.store b out.rest c.in-Some.first out.first c.args.error c.args.place c.in-Ok.raised out.works c.in-Ok.ensures in
    let held = report_is_held s b (one c.in-Some.first.root out.first) none out.rest out.works c.in-Some.first out.first out.number (is_there s b row c.in-Some.first out) in (
      out.rest then only raised,
      raise_granted s b row c.in-Some.first out c.args.place c.args.error held c.in-Ok.ensures.granted.free,
      rests c.collect.new.store c.collect.new.basket c.in-Ok.raised.root raised (out.rest then only raised)
          (c.collect.ensures.works (one c.in-Ok.raised.root raised) none out.rest raised works (update_here none c.in-Ok.raised.root (Some raised))),
    )

pub returns-in-Err : goal.returns-in-Err
returns-in-Err c =
    let s = c.take.new.store in
    let b = c.take.new.basket in
    let row = row_in c.args.store.now c.args.basket in
    let out = first_out s b none none row c.take.result c.in-Some.first (c.take.ensures.works none none row c.requires) c.in-Some.is in
    let held = report_is_held s b (one c.in-Some.first.root out.first) none out.rest out.works c.in-Some.first out.first out.number (is_there s b row c.in-Some.first out) in
    raise_refused s b row c.in-Some.first out c.args.place c.args.error c.in-Err.field-0.fault held c.in-Err.ensures.0.first
