-- What is shown of an io error that has a payload.
use Rattle.std.proofs.Common.{◌≡◌, ◌++◌, Some, None, Ok, Option, refl, ap}
use Rattle.classes.specs.Ascii.{ascii}
use Rattle.vocabulary.specs.IoKind.{io_name}
use Rattle.vocabulary.specs.declared.frame_error.FrameError.{FrameError}
use Rattle.vocabulary.specs.declared.frame_error.FrameError.TheVariants.{Host}
use Rattle.vocabulary.specs.declared.io_kind.IoKind.{IoKind}
use Rattle.model.specs.Host.{Error, Errors, answer}
use Rattle.nodes.specs.Nodes.{LiveError}
use Rattle.print_forms.specs.Shown.{error_text, payload_kind, told_text, text_or_kind}
use Rattle.buffers.specs.Printed.{kind_answer}
use Rattle.std.specs.Option.{is_some}
use Rattle.std.proofs.Common.{true}

pub kind_text : (h : Errors) (e : FrameError) (k : IoKind) → Ok (Some k) ≡ kind_answer h e → LiveError h e × (error_text h e ≡ ascii "I/O error (" ++ (io_name k ++ ascii ")"))
kind_text h (Host e) k q = go (h e) q
  where
    go : (o : Option Error) → Ok (Some k) ≡ answer o e payload_kind → (is_some o ≡ true) × (told_text o ≡ ascii "I/O error (" ++ (io_name k ++ ascii ")"))
    go None q = absurd cc
    go (Some m) q = (refl, let p : payload_kind m ≡ Some k = cc in ap (text_or_kind m.text) p)
