use Rattle.std.proofs.Common.{◌≤◌, length, sym, subst, ◌∙◌, arith}
use Rattle.std.proofs.lemmas.Bool.{eqb-true}
use Rattle.cases.specs.Valid.{IsText}
use Rattle.cases.proofs.Text.{is_text_push, Unread, unread_less, unread_full, unread_none}
use Rattle.cases.proofs.reading.text.Goals as goal

pub loop-byte-preserved : goal.loop-byte-preserved
loop-byte-preserved c =
    subst (λ front. Unread c.args.bytes.now front c.in-Some.after.now × IsText front) (sym c.push.ensures.items) (
      unread_less c.args.bytes.now c.loop-byte.text.items c.loop-byte.rest.now c.in-Some.byte c.in-Some.after.now c.loop-byte.invariant.0 (sym c.in-Some.ensures.value),
      is_text_push c.loop-byte.text.items c.in-Some.byte c.loop-byte.invariant.1 c.in-Some.ensures.byte (sym c.is_full.ensures.value ∙ c.if-is_full.false),
    )

pub returns-then-is_full-clause-reads : goal.returns-then-is_full-clause-reads
returns-then-is_full-clause-reads c = λ t valid e.
    let full : 255 ≤ length c.loop-byte.text.items = omega (arith, eqb-true (length c.loop-byte.text.items) 255 (sym c.is_full.ensures.value ∙ c.if-is_full.true)) in
    absurd (unread_full c.args.bytes.now c.loop-byte.text.items c.loop-byte.rest.now c.in-Some.byte c.in-Some.after.now c.loop-byte.invariant.0 (sym c.in-Some.ensures.value) full t valid e)

pub returns-in_default-clause-reads : goal.returns-in_default-clause-reads
returns-in_default-clause-reads c = λ t valid e. unread_none c.args.bytes.now c.loop-byte.text.items c.loop-byte.rest.now c.loop-byte.invariant.0 (sym c.in_default.ensures.value) t valid e
