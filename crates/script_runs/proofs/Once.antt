-- A script comes to one answer.
use Rattle.std.proofs.Common.{◌≡◌, ◌≢◌, ℕ, ◌+◌, nat_lt, List, [], length, Result, Ok, Err, inl, inr, sym, ap, ◌∙◌, subst, ltb-true, ltb-false}
use Rattle.std.proofs.lemmas.Bool.{cases_Bool}
use Rattle.trees.specs.Trees.{Forest, empty}
use Rattle.script_lines.proofs.Lines.{begins_once, nothing_begins}
use Rattle.script_lines.specs.Spelling.{Begins}
use Rattle.script_lines.specs.declared.line.Line.{Line}
use Rattle.script_runs.specs.Runs.{RunsFrom, RunsOnce, ends, goes_on, refused, refuses, stops}
use Rattle.script_runs.specs.Steps.{step}
use Rattle.script_runs.specs.declared.fault.LineFault.{LineFault}
use Rattle.script_runs.specs.declared.fault.LineFault.TheVariants.{NotRead}
use Rattle.script_runs.specs.declared.fault.ScriptFault.{ScriptFault}

abbrev Answer : Type 0
Answer = Result Forest ScriptFault

abbrev ok : Forest → Result Forest LineFault
ok row = Ok row

abbrev err : LineFault → Result Forest LineFault
err f = Err f

ok_is : (x y : Forest) → ok x ≡ ok y → x ≡ y
ok_is x y e = cc

err_is : (f g : LineFault) → err f ≡ err g → f ≡ g
err_is f g e = cc

ok_or_err : (r : Result Forest LineFault) (x : Forest) (f : LineFault) → r ≡ Ok x → r ≡ Err f → ⊥
ok_or_err r x f p q = absurd (cc (p, q))

-- what begins with a line is not empty
begun : (text : List ℕ) (l : Line) (after : List ℕ) → text ≡ [] → Begins text l after → ⊥
begun text l after e b = nothing_begins l after (subst (λ (t : List ℕ). Begins t l after) e b)

after_end : (n : ℕ) (row : Forest) (text : List ℕ) (b : Answer) → RunsFrom n row text b → text ≡ [] → b ≡ Ok row
after_end _ _ _ _ (ends n row text b e p) q = p
after_end _ _ _ _ (goes_on n row next l text after b begins s r) q = absurd (begun text l after q begins)
after_end _ _ _ _ (refuses n row l f text after b begins s p) q = absurd (begun text l after q begins)
after_end _ _ _ _ (stops n row text b more none p) q = absurd (more q)

after_stop : (n : ℕ) (row : Forest) (text : List ℕ) (b : Answer) → RunsFrom n row text b → text ≢ [] → ((l : Line) (after : List ℕ) → Begins text l after → ⊥) → b ≡ refused n NotRead
after_stop _ _ _ _ (ends n row text b e p) more none = absurd (more e)
after_stop _ _ _ _ (goes_on n row next l text after b begins s r) more none = absurd (none l after begins)
after_stop _ _ _ _ (refuses n row l f text after b begins s p) more none = absurd (none l after begins)
after_stop _ _ _ _ (stops n row text b more' none' p) more none = p

after_refusal : (n : ℕ) (row : Forest) (text : List ℕ) (b : Answer) → RunsFrom n row text b → (l : Line) (after : List ℕ) (f : LineFault) → Begins text l after → step n l row ≡ Err f → b ≡ refused n f
after_refusal _ _ _ _ (ends n row text b e p) l after f begins s = absurd (begun text l after e begins)
after_refusal _ _ _ _ (goes_on n row next m text after' b begins' s' r) l after f begins s =
    let same = begins_once text m l after' after begins' begins in
    absurd (ok_or_err (step n l row) next f (subst (λ (k : Line). step n k row ≡ Ok next) same.line s') s)
after_refusal _ _ _ _ (refuses n row m g text after' b begins' s' p) l after f begins s =
    let same = begins_once text m l after' after begins' begins in
    p ∙ ap (refused n) (err_is g f (sym s' ∙ ap (λ (k : Line). step n k row) same.line ∙ s))
after_refusal _ _ _ _ (stops n row text b more none p) l after f begins s = absurd (none l after begins)

after_step : (n : ℕ) (row : Forest) (text : List ℕ) (b : Answer) → RunsFrom n row text b → (l : Line) (after : List ℕ) (next : Forest) → Begins text l after → step n l row ≡ Ok next → RunsFrom (n + 1) next after b
after_step _ _ _ _ (ends n row text b e p) l after next begins s = absurd (begun text l after e begins)
after_step _ _ _ _ (goes_on n row next' m text after' b begins' s' r) l after next begins s =
    let same = begins_once text m l after' after begins' begins in
    let row_is = ok_is next' next (sym s' ∙ ap (λ (k : Line). step n k row) same.line ∙ s) in
    subst (λ (t : List ℕ). RunsFrom (n + 1) next t b) same.rest (subst (λ (f : Forest). RunsFrom (n + 1) f after' b) row_is r)
after_step _ _ _ _ (refuses n row m g text after' b begins' s' p) l after next begins s =
    let same = begins_once text m l after' after begins' begins in
    absurd (ok_or_err (step n l row) next g s (subst (λ (k : Line). step n k row ≡ Err g) same.line s'))
after_step _ _ _ _ (stops n row text b more none p) l after next begins s = absurd (none l after begins)

rest_once : (n : ℕ) (row : Forest) (text : List ℕ) (a b : Answer) → RunsFrom n row text a → RunsFrom n row text b → a ≡ b
rest_once _ _ _ _ b (ends n row text a e p) r = p ∙ sym (after_end n row text b r e)
rest_once _ _ _ _ b (goes_on n row next l text after a begins s q) r = rest_once (n + 1) next after a b q (after_step n row text b r l after next begins s)
rest_once _ _ _ _ b (refuses n row l f text after a begins s p) r = p ∙ sym (after_refusal n row text b r l after f begins s)
rest_once _ _ _ _ b (stops n row text a more none p) r = p ∙ sym (after_stop n row text b r more none)

pub once : RunsOnce
once script a b r s =
    elim (cases_Bool (nat_lt 4096 (length script))) [
      | inl more ↦ let long = ltb-true 4096 (length script) more in r.long long ∙ sym (s.long long)
      | inr less ↦ let short = ltb-false 4096 (length script) less in rest_once 1 empty script a b (r.short short) (s.short short)
    ]
