use Rattle.std.proofs.Common.{List, ℕ, ◌++◌, Ok, ap, ◌∙◌, sym, subst}
use Rattle.classes.specs.Ascii.{ascii}
use Rattle.buffers.specs.Printed.{Printed}
use Rattle.buffers.proofs.Printed.{together}
use Rattle.buffers.proofs.Payloads.{kind_text}
use Rattle.buffers.proofs.texts.put_error.Goals as goal

pub returns-in-Some : goal.returns-in-Some
returns-in-Some g c =
    let told = kind_text (g.H.Host.errors c.args.host.now) c.args.error c.in-Some.kind (ap Ok (sym c.in-Some.is) ∙ c.in_ok-payload_kind.ensures) in (
      told.0,
      subst (Printed c.args.at c.put.result c.args.out.now c.put.new.out) (ap (λ (x : List ℕ). ascii "I/O error (" ++ (x ++ ascii ")")) (c.as_bytes.ensures.value ∙ c.name.ensures) ∙ sym told.1)
          (together _ _ _ _ _ _ _ _ c.put-at.ensures.printed (together _ _ _ _ _ _ _ _ c.put-at-in-Some.ensures.printed c.put.ensures.printed)),
    )
