use Rattle.std.proofs.Common.{Some, sym, ◌∙◌, subst}
use Rattle.std.proofs.lemmas.Map.{update_apart, update_here}
use Rattle.trees.specs.Trees.{◌then◌, only}
use Rattle.store.specs.Calls.{Chained}
use Rattle.script_runs.proofs.Held.{basket_is_held, chain_ok, discard_all_ok, report_is_held}
use Rattle.script_runs.proofs.Works.{chained_number, chained_works, over_last, vacant_before}
use Rattle.script_runs.proofs.Lines.{first_out, none_chain, none_out, one_chain, rests, two_chain}
use Rattle.script_runs.specs.Working.{none, one, row_in}
use Rattle.script_runs.proofs.steps.chain.Goals as goal

pub take-requires : goal.take-requires
take-requires c = basket_is_held c.args.store.now c.args.basket none none _ c.requires

pub unwrap-requires : goal.unwrap-requires
unwrap-requires c =
    let row = row_in c.args.store.now c.args.basket in
    let left = none_out c.take.new.store c.take.new.basket none none row c.take.result (c.take.ensures.works none none row c.requires) c.in_default.is in
    discard_all_ok c.take.new.store c.discard.new.store c.take.new.basket c.discard.result (basket_is_held c.take.new.store c.take.new.basket none none row left.1) c.discard.ensures

pub returns-in_default : goal.returns-in_default
returns-in_default c = λ place.
    let row = row_in c.args.store.now c.args.basket in
    let left = none_out c.take.new.store c.take.new.basket none none row c.take.result (c.take.ensures.works none none row c.requires) c.in_default.is in
    none_chain place row left.0

pub take-requires-2 : goal.take-requires-2
take-requires-2 c =
    let s = c.take.new.store in
    let b = c.take.new.basket in
    let row = row_in c.args.store.now c.args.basket in
    let out = first_out s b none none row c.take.result c.in-Some.first (c.take.ensures.works none none row c.requires) c.in-Some.is in
    basket_is_held s b _ none out.rest out.works

pub discard_both-requires : goal.discard_both-requires
discard_both-requires c =
    let s = c.take.new.store in
    let b = c.take.new.basket in
    let row = row_in c.args.store.now c.args.basket in
    let out = first_out s b none none row c.take.result c.in-Some.first (c.take.ensures.works none none row c.requires) c.in-Some.is in
    let left = none_out c.take-2.new.store c.take-2.new.basket (one c.in-Some.first.root out.first) none out.rest c.take-2.result (c.take-2.ensures.works (one c.in-Some.first.root out.first) none out.rest out.works) c.in_default-take.is in
    record { report = out.first; row = out.rest; works = left.1; number = out.number ∙ sym c.take-2.ensures.number }

pub returns-in_default-take : goal.returns-in_default-take
returns-in_default-take c = λ place.
    let s = c.take.new.store in
    let b = c.take.new.basket in
    let row = row_in c.args.store.now c.args.basket in
    let out = first_out s b none none row c.take.result c.in-Some.first (c.take.ensures.works none none row c.requires) c.in-Some.is in
    let left = none_out c.take-2.new.store c.take-2.new.basket (one c.in-Some.first.root out.first) none out.rest c.take-2.result (c.take-2.ensures.works (one c.in-Some.first.root out.first) none out.rest out.works) c.in_default-take.is in
    one_chain place row out.first out.rest out.parts left.0

pub unwrap-requires-2 : goal.unwrap-requires-2
unwrap-requires-2 c =
    let s = c.take.new.store in
    let b = c.take.new.basket in
    let row = row_in c.args.store.now c.args.basket in
    let out = first_out s b none none row c.take.result c.in-Some.first (c.take.ensures.works none none row c.requires) c.in-Some.is in
    let next = first_out c.take-2.new.store c.take-2.new.basket (one c.in-Some.first.root out.first) none out.rest c.take-2.result c.in-Some-take.second (c.take-2.ensures.works (one c.in-Some.first.root out.first) none out.rest out.works) c.in-Some-take.is in
    let apart = vacant_before none c.in-Some.first.root c.in-Some-take.second.root out.first next.alone in
    chain_ok c.take-2.new.store c.chain.new.store c.in-Some.first c.in-Some-take.second c.chain.result
    (report_is_held c.take-2.new.store c.take-2.new.basket _ none next.rest next.works c.in-Some.first out.first (out.number ∙ sym c.take-2.ensures.number) (update_apart (one c.in-Some.first.root out.first) c.in-Some-take.second.root (Some next.first) c.in-Some.first.root (λ q. apart.0 (sym q)) ∙ update_here none c.in-Some.first.root (Some out.first)))
    (report_is_held c.take-2.new.store c.take-2.new.basket _ none next.rest next.works c.in-Some-take.second next.first next.number (update_here (one c.in-Some.first.root out.first) c.in-Some-take.second.root (Some next.first)))
    (λ q. apart.0 (sym q)) c.chain.ensures

pub collect-requires-clause-basket : goal.collect-requires-clause-basket
collect-requires-clause-basket c =
    let s = c.take.new.store in
    let b = c.take.new.basket in
    let row = row_in c.args.store.now c.args.basket in
    let out = first_out s b none none row c.take.result c.in-Some.first (c.take.ensures.works none none row c.requires) c.in-Some.is in
    let next = first_out c.take-2.new.store c.take-2.new.basket (one c.in-Some.first.root out.first) none out.rest c.take-2.result c.in-Some-take.second (c.take-2.ensures.works (one c.in-Some.first.root out.first) none out.rest out.works) c.in-Some-take.is in
    let works = chained_works c.take-2.new.store c.chain.new.store c.take-2.new.basket next.rest c.in-Some.first c.in-Some-take.second out.first next.first next.alone next.works
    (subst (Chained c.take-2.new.store c.chain.new.store c.in-Some.first c.in-Some-take.second) c.unwrap-2.ensures c.chain.ensures) in
    basket_is_held c.chain.new.store c.take-2.new.basket _ none next.rest works

pub collect-requires-clause-report : goal.collect-requires-clause-report
collect-requires-clause-report c =
    let s = c.take.new.store in
    let b = c.take.new.basket in
    let row = row_in c.args.store.now c.args.basket in
    let out = first_out s b none none row c.take.result c.in-Some.first (c.take.ensures.works none none row c.requires) c.in-Some.is in
    let next = first_out c.take-2.new.store c.take-2.new.basket (one c.in-Some.first.root out.first) none out.rest c.take-2.result c.in-Some-take.second (c.take-2.ensures.works (one c.in-Some.first.root out.first) none out.rest out.works) c.in-Some-take.is in
    let works = chained_works c.take-2.new.store c.chain.new.store c.take-2.new.basket next.rest c.in-Some.first c.in-Some-take.second out.first next.first next.alone next.works
    (subst (Chained c.take-2.new.store c.chain.new.store c.in-Some.first c.in-Some-take.second) c.unwrap-2.ensures c.chain.ensures) in
    report_is_held c.chain.new.store c.take-2.new.basket _ none next.rest works c.in-Some.first (over_last out.first next.first) (out.number ∙ sym c.take-2.ensures.number ∙ sym (chained_number c.take-2.new.store c.chain.new.store c.in-Some.first c.in-Some-take.second c.chain.result c.chain.ensures c.unwrap-2.ensures)) (update_here none c.in-Some.first.root (Some (over_last out.first next.first)))

pub returns : goal.returns
returns c = λ place.
    let s = c.take.new.store in
    let b = c.take.new.basket in
    let row = row_in c.args.store.now c.args.basket in
    let out = first_out s b none none row c.take.result c.in-Some.first (c.take.ensures.works none none row c.requires) c.in-Some.is in
    let next = first_out c.take-2.new.store c.take-2.new.basket (one c.in-Some.first.root out.first) none out.rest c.take-2.result c.in-Some-take.second (c.take-2.ensures.works (one c.in-Some.first.root out.first) none out.rest out.works) c.in-Some-take.is in
    let raised = over_last out.first next.first in
    let works = chained_works c.take-2.new.store c.chain.new.store c.take-2.new.basket next.rest c.in-Some.first c.in-Some-take.second out.first next.first next.alone next.works
    (subst (Chained c.take-2.new.store c.chain.new.store c.in-Some.first c.in-Some-take.second) c.unwrap-2.ensures c.chain.ensures) in (
      next.rest then only raised,
      two_chain place row out.first next.first out.rest next.rest out.parts next.parts,
      rests c.collect.new.store c.collect.new.basket c.in-Some.first.root raised (next.rest then only raised)
          (c.collect.ensures.works (one c.in-Some.first.root raised) none next.rest raised works (update_here none c.in-Some.first.root (Some raised))),
    )
