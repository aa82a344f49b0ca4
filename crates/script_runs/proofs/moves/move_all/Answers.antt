use Rattle.std.proofs.Common.{eqb, Some, refl, sym, ap, ap₂, ◌∙◌, subst, arith}
use Rattle.std.proofs.lemmas.Map.{update_here}
use Rattle.std.specs.Map.{update}
use Rattle.rebuilding.proofs.Adopt.{then_assoc}
use Rattle.rebuilding.proofs.Entries.{then_empty}
use Rattle.trees.specs.Trees.{Forest, ◌then◌, frames, only}
use Rattle.ledger.specs.Ledger.{opened}
use Rattle.store.specs.Calls.{DiscardedAll}
use Rattle.store.specs.Store.{ledger_of}
use Rattle.script_runs.proofs.Held.{basket_is_held, discard_all_ok, report_is_held, row_is}
use Rattle.script_runs.proofs.Lines.{first_out, none_out}
use Rattle.script_runs.proofs.Works.{ended_works, moved_works, other_works}
use Rattle.script_runs.specs.Working.{Works, WorksTwo, none, row_in}
use Rattle.script_runs.proofs.moves.move_all.Goals as goal

pub loop-report-init : goal.loop-report-init
loop-report-init c = record { number = refl; works = c.requires; moved = refl }

pub take-requires : goal.take-requires
take-requires c = basket_is_held c.loop-report.store c.loop-report.from _ _ _ c.loop-report.invariant.works.second

pub collect-requires-clause-basket : goal.collect-requires-clause-basket
collect-requires-clause-basket c =
    let w = c.loop-report.invariant.works in
    let g = (ledger_of c.args.store.now).reports in
    let row = row_in c.loop-report.store c.loop-report.basket in
    let more = row_in c.loop-report.store c.loop-report.from in
    let others = opened none c.loop-report.basket.root row in
    let out = first_out c.take.new.store c.take.new.basket g others more c.take.result c.in-Some.report (c.take.ensures.works g others more w.second) c.in-Some.is in
    basket_is_held c.take.new.store c.loop-report.basket _ _ row
    (other_works c.take.new.store c.loop-report.basket c.take.new.basket _ row out.rest out.works (w.first.number ∙ sym c.take.ensures.number) w.first.known)

pub collect-requires-clause-report : goal.collect-requires-clause-report
collect-requires-clause-report c =
    let w = c.loop-report.invariant.works in
    let g = (ledger_of c.args.store.now).reports in
    let row = row_in c.loop-report.store c.loop-report.basket in
    let more = row_in c.loop-report.store c.loop-report.from in
    let others = opened none c.loop-report.basket.root row in
    let out = first_out c.take.new.store c.take.new.basket g others more c.take.result c.in-Some.report (c.take.ensures.works g others more w.second) c.in-Some.is in
    report_is_held c.take.new.store c.take.new.basket _ others out.rest out.works c.in-Some.report out.first out.number (update_here g c.in-Some.report.root (Some out.first))

pub loop-report-preserved : goal.loop-report-preserved
loop-report-preserved c =
    let w = c.loop-report.invariant.works in
    let g = (ledger_of c.args.store.now).reports in
    let row = row_in c.loop-report.store c.loop-report.basket in
    let more = row_in c.loop-report.store c.loop-report.from in
    let others = opened none c.loop-report.basket.root row in
    let out = first_out c.take.new.store c.take.new.basket g others more c.take.result c.in-Some.report (c.take.ensures.works g others more w.second) c.in-Some.is in
    let moved = moved_works c.take.new.store c.collect.new.store c.loop-report.basket c.collect.new.basket c.take.new.basket c.in-Some.report g row more out
    (w.first.number ∙ sym c.take.ensures.number) w.first.known (λ o f v. c.collect.ensures.works (update eqb g c.in-Some.report.root (Some out.first)) o f out.first v (update_here g c.in-Some.report.root (Some out.first))) c.collect.ensures.number in
    let row_now = row_is c.collect.new.store c.collect.new.basket g (opened none c.take.new.basket.root out.rest) (row then only out.first) moved.first in
    let more_now = row_is c.collect.new.store c.take.new.basket g (opened none c.collect.new.basket.root (row then only out.first)) out.rest moved.second in
    record {
      number = c.collect.ensures.number ∙ c.take.ensures.number ∙ c.loop-report.invariant.number;
      works = subst (λ (f : Forest). WorksTwo c.collect.new.store c.collect.new.basket c.take.new.basket g f (row_in c.collect.new.store c.take.new.basket)) (sym row_now)
          (subst (WorksTwo c.collect.new.store c.collect.new.basket c.take.new.basket g (row then only out.first)) (sym more_now) moved);
      moved = ap₂ (λ (f h : Forest). f then h) row_now more_now ∙ then_assoc row (only out.first) out.rest ∙ ap (λ (f : Forest). row then f) (sym out.parts) ∙ c.loop-report.invariant.moved;
    }

pub loop-report-smaller : goal.loop-report-smaller
loop-report-smaller c =
    let w = c.loop-report.invariant.works in
    let g = (ledger_of c.args.store.now).reports in
    let row = row_in c.loop-report.store c.loop-report.basket in
    let more = row_in c.loop-report.store c.loop-report.from in
    let others = opened none c.loop-report.basket.root row in
    let out = first_out c.take.new.store c.take.new.basket g others more c.take.result c.in-Some.report (c.take.ensures.works g others more w.second) c.in-Some.is in
    let moved = moved_works c.take.new.store c.collect.new.store c.loop-report.basket c.collect.new.basket c.take.new.basket c.in-Some.report g row more out
    (w.first.number ∙ sym c.take.ensures.number) w.first.known (λ o f v. c.collect.ensures.works (update eqb g c.in-Some.report.root (Some out.first)) o f out.first v (update_here g c.in-Some.report.root (Some out.first))) c.collect.ensures.number in
    let row_now = row_is c.collect.new.store c.collect.new.basket g (opened none c.take.new.basket.root out.rest) (row then only out.first) moved.first in
    let more_now = row_is c.collect.new.store c.take.new.basket g (opened none c.collect.new.basket.root (row then only out.first)) out.rest moved.second in
    let before = ap frames out.parts in
    let now = ap frames more_now in
    omega (arith, before, now)

pub unwrap-requires : goal.unwrap-requires
unwrap-requires c =
    let w = c.loop-report.invariant.works in
    let g = (ledger_of c.args.store.now).reports in
    let row = row_in c.loop-report.store c.loop-report.basket in
    let more = row_in c.loop-report.store c.loop-report.from in
    let others = opened none c.loop-report.basket.root row in
    let left = none_out c.take.new.store c.take.new.basket g others more c.take.result (c.take.ensures.works g others more w.second) c.in_default.is in
    discard_all_ok c.take.new.store c.discard.new.store c.take.new.basket c.discard.result (basket_is_held c.take.new.store c.take.new.basket g others more left.1) c.discard.ensures

pub returns-clause-works : goal.returns-clause-works
returns-clause-works c =
    let w = c.loop-report.invariant.works in
    let g = (ledger_of c.args.store.now).reports in
    let row = row_in c.loop-report.store c.loop-report.basket in
    let more = row_in c.loop-report.store c.loop-report.from in
    let others = opened none c.loop-report.basket.root row in
    let left = none_out c.take.new.store c.take.new.basket g others more c.take.result (c.take.ensures.works g others more w.second) c.in_default.is in
    let two : WorksTwo c.take.new.store c.loop-report.basket c.take.new.basket g row more =
    record { first = other_works c.take.new.store c.loop-report.basket c.take.new.basket g row more left.1 (w.first.number ∙ sym c.take.ensures.number) w.first.known; second = left.1 } in
    let moved = sym (ap (λ (f : Forest). row then f) left.0 ∙ then_empty row) ∙ c.loop-report.invariant.moved in
    subst (Works c.discard.new.store c.loop-report.basket g none) moved
    (ended_works c.take.new.store c.discard.new.store c.loop-report.basket c.take.new.basket g row more two (subst (DiscardedAll c.take.new.store c.discard.new.store c.take.new.basket) c.unwrap.ensures c.discard.ensures))

pub returns-clause-number : goal.returns-clause-number
returns-clause-number c =
    let w = c.loop-report.invariant.works in
    let g = (ledger_of c.args.store.now).reports in
    let row = row_in c.loop-report.store c.loop-report.basket in
    let more = row_in c.loop-report.store c.loop-report.from in
    let others = opened none c.loop-report.basket.root row in
    let left = none_out c.take.new.store c.take.new.basket g others more c.take.result (c.take.ensures.works g others more w.second) c.in_default.is in
    let ended = subst (DiscardedAll c.take.new.store c.discard.new.store c.take.new.basket) c.unwrap.ensures c.discard.ensures in
    ended.became.number ∙ c.take.ensures.number ∙ c.loop-report.invariant.number
