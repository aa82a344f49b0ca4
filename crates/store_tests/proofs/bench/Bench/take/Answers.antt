use Rattle.std.proofs.Common.{◌≡◌, true, Option, Result, Ok, rules, subst, ◌∙◌}
use Rattle.vocabulary.specs.declared.fault.StoreFault.{StoreFault}
use Rattle.store.specs.Calls.{basket_held, Taken}
use Rattle.store.specs.Token.{Exn}
use Rattle.store_tests.proofs.Taken.{take_keeps}
use Rattle.store_tests.proofs.bench.Bench.take.Goals as goal

pub invariant_of-self-2 : goal.invariant_of-self-2
invariant_of-self-2 c =
    let was = c.args.self.now.store in
    let b = c.in_ok-basket.basket.now in
    let held : basket_held was b ≡ true = search rules in
    let t = subst (λ (r : Result (Option Exn) StoreFault). Taken was c.take.new.store b c.take.new.self r) c.unwrap-report.ensures c.take.ensures in
    let k = take_keeps was c.take.new.store b c.take.new.self c.unwrap-report.result held t in
    record { known = k.0 ∙ c.args.self.now.known; report_live = k.1; basket_live = k.2 }
