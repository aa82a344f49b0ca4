use Rattle.std.proofs.Common.{◌≡◌, ◌≢◌, ◌+◌, [], Result, Ok, refl, sym, ◌∙◌, subst, arith}
use Rattle.trees.specs.Trees.{Forest, empty}
use Rattle.script_lines.specs.Spelling.{Begins}
use Rattle.script_runs.proofs.Held.{basket_is_held, discard_all_ok, row_is}
use Rattle.script_runs.proofs.Whole.{less_left, more_left, none_left, runs_short, started}
use Rattle.script_runs.specs.Runs.{RunsFrom, ends, goes_on, refused, refuses, stops}
use Rattle.script_runs.specs.Working.{Rests, none, row_in}
use Rattle.script_runs.specs.declared.fault.LineFault.TheVariants.{NotRead}
use Rattle.script_runs.specs.declared.fault.ScriptFault.{ScriptFault}
use Rattle.script_runs.proofs.run.run.Goals as goal

pub loop-rest-init : goal.loop-rest-init
loop-rest-init c =
    let s = c.args.store.now in
    let b = c.basket-basket.result in
    let start = started s b c.requires c.basket-basket.ensures in
    let row = row_is s b none none empty start in
    record {
      rests = subst (Rests s b) (sym row) start;
      few = omega arith;
      goes_on = λ answer r. subst (λ (f : Forest). RunsFrom 1 f c.args.script.now answer) row r;
    }

pub unwrap-requires : goal.unwrap-requires
unwrap-requires c = discard_all_ok c.loop-rest.store c.discard.new.store c.loop-rest.basket c.discard.result (basket_is_held c.loop-rest.store c.loop-rest.basket none none _ c.loop-rest.invariant.rests) c.discard.ensures

pub returns-in_default : goal.returns-in_default
returns-in_default c =
    let answer = refused c.loop-rest.line NotRead in
    let more : c.loop-rest.rest.now ≢ [] = more_left c.loop-rest.rest.now (sym c.is_empty.ensures ∙ c.loop-rest-test.true) in
    runs_short c.args.script.now answer (omega (arith, c.if-script-gt-LIMIT.false)) (c.loop-rest.invariant.goes_on answer (stops c.loop-rest.line (row_in c.loop-rest.store c.loop-rest.basket) c.loop-rest.rest.now answer more (c.in_default.ensures.none refl) refl))

pub returns-in-Err : goal.returns-in-Err
returns-in-Err c =
    let answer = refused c.loop-rest.line c.in-Err.fault in
    let begins : Begins c.loop-rest.rest.now c.in-Some.next c.in-Some.after.now = c.in-Some.ensures.found in
    runs_short c.args.script.now answer (omega (arith, c.if-script-gt-LIMIT.false)) (c.loop-rest.invariant.goes_on answer
    (refuses c.loop-rest.line (row_in c.loop-rest.store c.loop-rest.basket) c.in-Some.next c.in-Err.fault c.loop-rest.rest.now c.in-Some.after.now answer begins c.in-Err.ensures refl))

pub loop-rest-preserved : goal.loop-rest-preserved
loop-rest-preserved c =
    let s = c.step.new.store in
    let b = c.in-Ok.basket in
    let row = row_in c.loop-rest.store c.loop-rest.basket in
    let begins : Begins c.loop-rest.rest.now c.in-Some.next c.in-Some.after.now = c.in-Some.ensures.found in
    let next = c.in-Ok.ensures in
    let now = row_is s b none none next.0 next.2 in
    let less = less_left c.loop-rest.rest.now c.in-Some.after.now c.in-Some.next begins in
    record {
      rests = subst (Rests s b) (sym now) next.2;
      few = omega (arith, less, c.loop-rest.invariant.few);
      goes_on = λ answer r. c.loop-rest.invariant.goes_on answer
          (goes_on c.loop-rest.line row next.0 c.in-Some.next c.loop-rest.rest.now c.in-Some.after.now answer begins next.1 (subst (λ (f : Forest). RunsFrom (c.loop-rest.line + 1) f c.in-Some.after.now answer) now r));
    }

pub returns : goal.returns
returns c =
    let row = row_in c.loop-rest.store c.loop-rest.basket in
    let answer : Result Forest ScriptFault = Ok row in
    let nothing : c.loop-rest.rest.now ≡ [] = none_left c.loop-rest.rest.now (sym c.is_empty.ensures ∙ c.loop-rest-test.false) in (
      row,
      runs_short c.args.script.now answer (omega (arith, c.if-script-gt-LIMIT.false)) (c.loop-rest.invariant.goes_on answer (ends c.loop-rest.line row c.loop-rest.rest.now answer nothing refl)),
      c.loop-rest.invariant.rests,
    )
