use Rattle.std.proofs.Common.{◌≡◌, true, Some, sym, subst}
use Rattle.std.proofs.lemmas.Map.{update_here}
use Rattle.trees.specs.Trees.{empty, only}
use Rattle.store.specs.Calls.{basket_held}
use Rattle.script_runs.proofs.Held.{basket_is_held, discard_all_ok}
use Rattle.script_runs.proofs.Works.{raised_all_works}
use Rattle.script_runs.proofs.Lines.{all_granted, all_refused, rests}
use Rattle.script_runs.specs.Steps.{over}
use Rattle.script_runs.specs.Working.{none, one, row_in}
use Rattle.script_runs.proofs.steps.raise_all.Goals as goal

pub unwrap-requires : goal.unwrap-requires
unwrap-requires c =
    let same = c.in-Err.ensures.1 in
    let held = basket_is_held c.args.store.now c.args.basket none none _ c.requires in
    discard_all_ok c.raise_all.new.store c.discard.new.store c.in-Err.field-0.given c.discard.result
    (subst (λ s. basket_held s c.in-Err.field-0.given ≡ true) (sym c.in-Err.ensures.0.same) (subst (λ b. basket_held c.args.store.now b ≡ true) (sym same) held)) c.discard.ensures

pub returns-in-Ok : goal.returns-in-Ok
returns-in-Ok c =
    let s = c.args.store.now in
    let b = c.args.basket in
    let row = row_in s b in
    let raised = over c.args.error c.args.place row in
    let works = raised_all_works s c.raise_all.new.store b row c.args.error c.args.place c.in-Ok.raised c.basket-next.result c.requires c.in-Ok.ensures c.basket-next.ensures in (
      only raised,
      all_granted s b row c.args.error c.requires (only raised) (basket_is_held s b none none row c.requires) c.in-Ok.ensures.granted.free,
      rests c.collect.new.store c.collect.new.basket c.in-Ok.raised.root raised (only raised)
          (c.collect.ensures.works (one c.in-Ok.raised.root raised) none empty raised works (update_here none c.in-Ok.raised.root (Some raised))),
    )

pub returns-in-Err : goal.returns-in-Err
returns-in-Err c =
    let s = c.args.store.now in
    let b = c.args.basket in
    let row = row_in s b in
    all_refused s b row c.args.error c.requires (only (over c.args.error c.args.place row)) c.in-Err.field-0.fault (basket_is_held s b none none row c.requires) c.in-Err.ensures.0.first
