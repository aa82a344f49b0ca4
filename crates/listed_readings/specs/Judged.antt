-- What errors come to under a policy, each with the sources beneath it.
use Rattle.std.specs.Prelude.{ℕ, Bool, false, cond, ◌||◌, List, Some, None, Ok, Err, Option, Result}
use Rattle.classes.specs.Class.{lesser}
use Rattle.vocabulary.specs.declared.fault.HostFault.{HostFault}
use Rattle.vocabulary.specs.declared.fault.HostFault.TheVariants.{NotLive}
use Rattle.vocabulary.specs.declared.frame_error.FrameError.{FrameError}
use Rattle.vocabulary.specs.declared.policy.Pair.{Pair}
use Rattle.model.specs.Host.{Errors}
use Rattle.host.specs.Findings.{findings_of}
use Rattle.host.specs.declared.judge.Findings.{Findings}
use Rattle.nodes.specs.declared.node.Node.{Node}
use Rattle.readings.specs.Folds.{folded}
use Rattle.readings.specs.Readings.{first_not_live, frame_pairs}

-- of no errors
abbrev pub no_findings : Findings
no_findings = record { class = None; accepted = false }

-- two findings as one
abbrev pub both : Findings → Findings → Findings
both a b = record { class = lesser a.class b.class; accepted = a.accepted || b.accepted }

-- of errors and of the sources beneath them
abbrev pub all_findings : Errors → (Pair → Bool) → List FrameError → Findings
all_findings h accepts es = folded both no_findings (λ (e : FrameError). findings_of accepts (frame_pairs h e)) es

-- a value where no error was found that is not live
abbrev pub if_live : {A : Type 0} → Option ℕ → A → Result A HostFault
if_live None a = Ok a
if_live (Some e) a = Err (NotLive e)

-- of errors and of the sources beneath them, or the first of the errors that is not live
abbrev pub judged : Errors → (Pair → Bool) → List FrameError → Result Findings HostFault
judged h accepts es = if_live (first_not_live h es) (all_findings h accepts es)

-- the error of a node that is a frame
abbrev pub frame_error : Node → Option FrameError
frame_error x = cond x.native None (Some x.error)
