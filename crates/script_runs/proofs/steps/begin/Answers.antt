use Rattle.std.proofs.Common.{◌≡◌, Some, sym, subst}
use Rattle.std.proofs.lemmas.Map.{update_here}
use Rattle.trees.specs.Trees.{empty, ◌then◌, only}
use Rattle.store.specs.Calls.{basket_held}
use Rattle.script_runs.proofs.Held.{basket_is_held, discard_all_ok}
use Rattle.script_runs.proofs.Works.{made_works}
use Rattle.script_runs.proofs.Lines.{new_granted, new_refused, rests}
use Rattle.script_runs.specs.Steps.{over}
use Rattle.script_runs.specs.Working.{none, one, row_in}
use Rattle.script_runs.proofs.steps.begin.Goals as goal

pub collect-requires-clause-basket : goal.collect-requires-clause-basket
collect-requires-clause-basket c =
    basket_is_held c.new.new.store c.args.basket _ none _
    (made_works c.args.store.now c.new.new.store c.args.basket _ c.args.error c.args.place c.in-Ok.report c.requires c.in-Ok.ensures)

pub unwrap-requires : goal.unwrap-requires
unwrap-requires c =
    discard_all_ok c.new.new.store c.discard.new.store c.args.basket c.discard.result
    (subst (λ s. basket_held s c.args.basket ≡ _) (sym c.in-Err.ensures.same) (basket_is_held c.args.store.now c.args.basket none none _ c.requires)) c.discard.ensures

pub returns-in-Ok : goal.returns-in-Ok
returns-in-Ok c =
    let row = row_in c.args.store.now c.args.basket in
    let leaf = over c.args.error c.args.place empty in
    let made = made_works c.args.store.now c.new.new.store c.args.basket row c.args.error c.args.place c.in-Ok.report c.requires c.in-Ok.ensures in (
      row then only leaf,
      new_granted c.args.store.now c.args.basket row c.args.error c.requires (row then only leaf) c.in-Ok.ensures.granted.free,
      rests c.collect.new.store c.collect.new.basket c.in-Ok.report.root leaf (row then only leaf)
          (c.collect.ensures.works (one c.in-Ok.report.root leaf) none row leaf made (update_here none c.in-Ok.report.root (Some leaf))),
    )

pub returns-in-Err : goal.returns-in-Err
returns-in-Err c =
    let row = row_in c.args.store.now c.args.basket in
    new_refused c.args.store.now c.args.basket row c.args.error c.requires (row then only (over c.args.error c.args.place empty)) c.in-Err.fault c.in-Err.ensures.first
