use Rattle.std.proofs.Common.{ap, subst}
use Rattle.store.specs.Calls.{Discarded}
use Rattle.script_lines.specs.declared.line.Line.TheVariants.{Drop}
use Rattle.script_runs.proofs.Held.{basket_is_held, discard_all_ok, discard_ok, report_is_held}
use Rattle.script_runs.proofs.Works.{discarded_works}
use Rattle.script_runs.proofs.Lines.{first_out, is_there, none_drop, none_out}
use Rattle.script_runs.specs.Steps.{step}
use Rattle.script_runs.specs.Working.{none, one, row_in}
use Rattle.script_runs.proofs.steps.drop_first.Goals as goal

pub take-requires : goal.take-requires
take-requires c = basket_is_held c.args.store.now c.args.basket none none _ c.requires

pub unwrap-requires : goal.unwrap-requires
unwrap-requires c =
    let row = row_in c.args.store.now c.args.basket in
    let left = none_out c.take.new.store c.take.new.basket none none row c.take.result (c.take.ensures.works none none row c.requires) c.in_default.is in
    discard_all_ok c.take.new.store c.discard.new.store c.take.new.basket c.discard.result (basket_is_held c.take.new.store c.take.new.basket none none row left.1) c.discard.ensures

pub returns-in_default : goal.returns-in_default
returns-in_default c = λ place.
    let row = row_in c.args.store.now c.args.basket in
    let left = none_out c.take.new.store c.take.new.basket none none row c.take.result (c.take.ensures.works none none row c.requires) c.in_default.is in
    none_drop place row left.0

pub unwrap-requires-2 : goal.unwrap-requires-2
unwrap-requires-2 c =
    let s = c.take.new.store in
    let b = c.take.new.basket in
    let row = row_in c.args.store.now c.args.basket in
    let out = first_out s b none none row c.take.result c.in-Some.first (c.take.ensures.works none none row c.requires) c.in-Some.is in
    discard_ok s c.discard-2.new.store c.in-Some.first c.discard-2.result
    (report_is_held s b (one c.in-Some.first.root out.first) none out.rest out.works c.in-Some.first out.first out.number (is_there s b row c.in-Some.first out)) c.discard-2.ensures

pub returns : goal.returns
returns c = λ place.
    let s = c.take.new.store in
    let b = c.take.new.basket in
    let row = row_in c.args.store.now c.args.basket in
    let out = first_out s b none none row c.take.result c.in-Some.first (c.take.ensures.works none none row c.requires) c.in-Some.is in (
      out.rest,
      ap (step place Drop) out.parts,
      discarded_works s c.discard-2.new.store b out.rest c.in-Some.first out.first out.works (subst (Discarded s c.discard-2.new.store c.in-Some.first) c.unwrap-2.ensures c.discard-2.ensures),
    )
