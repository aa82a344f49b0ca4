use Rattle.std.proofs.Common.{Some, sym, ◌∙◌}
use Rattle.std.proofs.lemmas.Map.{update_here}
use Rattle.trees.specs.Trees.{◌then◌, leaf, only}
use Rattle.script_runs.proofs.Held.{basket_is_held, discard_all_ok, drain_ok, report_is_held}
use Rattle.script_runs.proofs.Works.{drained_into, drained_works, two_moved, two_named}
use Rattle.script_runs.proofs.Lines.{first_drain, first_out, is_there, none_drain, none_out, rests}
use Rattle.script_runs.specs.Working.{none, one, row_in}
use Rattle.script_runs.proofs.steps.drain.Goals as goal

pub take-requires : goal.take-requires
take-requires c = basket_is_held c.args.store.now c.args.basket none none _ c.requires

pub unwrap-requires : goal.unwrap-requires
unwrap-requires c =
    let row = row_in c.args.store.now c.args.basket in
    let left = none_out c.take.new.store c.take.new.basket none none row c.take.result (c.take.ensures.works none none row c.requires) c.in_default.is in
    discard_all_ok c.take.new.store c.discard.new.store c.take.new.basket c.discard.result (basket_is_held c.take.new.store c.take.new.basket none none row left.1) c.discard.ensures

pub returns-in_default : goal.returns-in_default
returns-in_default c = λ place.
    let row = row_in c.args.store.now c.args.basket in
    let left = none_out c.take.new.store c.take.new.basket none none row c.take.result (c.take.ensures.works none none row c.requires) c.in_default.is in
    none_drain place row left.0

pub unwrap-children-requires : goal.unwrap-children-requires
unwrap-children-requires c =
    let s = c.take.new.store in
    let b = c.take.new.basket in
    let row = row_in c.args.store.now c.args.basket in
    let out = first_out s b none none row c.take.result c.in-Some.first (c.take.ensures.works none none row c.requires) c.in-Some.is in
    let drained = c.drain_children.new.store in
    drain_ok s drained c.in-Some.first c.drain_children.result
    (report_is_held s b (one c.in-Some.first.root out.first) none out.rest out.works c.in-Some.first out.first out.number (is_there s b row c.in-Some.first out)) c.drain_children.ensures

pub move_all-requires : goal.move_all-requires
move_all-requires c =
    let s = c.take.new.store in
    let b = c.take.new.basket in
    let row = row_in c.args.store.now c.args.basket in
    let out = first_out s b none none row c.take.result c.in-Some.first (c.take.ensures.works none none row c.requires) c.in-Some.is in
    let drained = c.drain_children.new.store in
    let leaf_left = leaf out.first.error out.first.place in
    let two = drained_works s drained b c.unwrap-children.result c.in-Some.first out.first out.rest out.works
    (drained_into s drained c.in-Some.first c.unwrap-children.result c.drain_children.result c.drain_children.ensures c.unwrap-children.ensures) in
    two_named drained b c.unwrap-children.result (one c.in-Some.first.root leaf_left) out.rest out.first.children two

pub collect-requires-clause-basket : goal.collect-requires-clause-basket
collect-requires-clause-basket c =
    let s = c.take.new.store in
    let b = c.take.new.basket in
    let row = row_in c.args.store.now c.args.basket in
    let out = first_out s b none none row c.take.result c.in-Some.first (c.take.ensures.works none none row c.requires) c.in-Some.is in
    let drained = c.drain_children.new.store in
    let leaf_left = leaf out.first.error out.first.place in
    let two = drained_works s drained b c.unwrap-children.result c.in-Some.first out.first out.rest out.works
    (drained_into s drained c.in-Some.first c.unwrap-children.result c.drain_children.result c.drain_children.ensures c.unwrap-children.ensures) in
    let moved = two_moved drained c.move_all.new.store b c.move_all.new.basket c.unwrap-children.result (one c.in-Some.first.root leaf_left) out.rest out.first.children two c.move_all.ensures.works in
    basket_is_held c.move_all.new.store c.move_all.new.basket _ none _ moved

pub collect-requires-clause-report : goal.collect-requires-clause-report
collect-requires-clause-report c =
    let s = c.take.new.store in
    let b = c.take.new.basket in
    let row = row_in c.args.store.now c.args.basket in
    let out = first_out s b none none row c.take.result c.in-Some.first (c.take.ensures.works none none row c.requires) c.in-Some.is in
    let drained = c.drain_children.new.store in
    let leaf_left = leaf out.first.error out.first.place in
    let two = drained_works s drained b c.unwrap-children.result c.in-Some.first out.first out.rest out.works
    (drained_into s drained c.in-Some.first c.unwrap-children.result c.drain_children.result c.drain_children.ensures c.unwrap-children.ensures) in
    let moved = two_moved drained c.move_all.new.store b c.move_all.new.basket c.unwrap-children.result (one c.in-Some.first.root leaf_left) out.rest out.first.children two c.move_all.ensures.works in
    let number = out.number ∙ sym (drained_into s drained c.in-Some.first c.unwrap-children.result c.drain_children.result c.drain_children.ensures c.unwrap-children.ensures).granted.became.number ∙ sym c.move_all.ensures.number in
    report_is_held c.move_all.new.store c.move_all.new.basket _ none _ moved c.in-Some.first leaf_left number (update_here none c.in-Some.first.root (Some leaf_left))

pub returns : goal.returns
returns c = λ place.
    let s = c.take.new.store in
    let b = c.take.new.basket in
    let row = row_in c.args.store.now c.args.basket in
    let out = first_out s b none none row c.take.result c.in-Some.first (c.take.ensures.works none none row c.requires) c.in-Some.is in
    let drained = c.drain_children.new.store in
    let leaf_left = leaf out.first.error out.first.place in
    let two = drained_works s drained b c.unwrap-children.result c.in-Some.first out.first out.rest out.works
    (drained_into s drained c.in-Some.first c.unwrap-children.result c.drain_children.result c.drain_children.ensures c.unwrap-children.ensures) in
    let moved = two_moved drained c.move_all.new.store b c.move_all.new.basket c.unwrap-children.result (one c.in-Some.first.root leaf_left) out.rest out.first.children two c.move_all.ensures.works in
    let next = (out.rest then out.first.children) then only leaf_left in (
      next,
      first_drain place row out.first out.rest out.parts,
      rests c.collect.new.store c.collect.new.basket c.in-Some.first.root leaf_left next
          (c.collect.ensures.works (one c.in-Some.first.root leaf_left) none (out.rest then out.first.children) leaf_left moved (update_here none c.in-Some.first.root (Some leaf_left))),
    )
