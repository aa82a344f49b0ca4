use Rattle.std.proofs.Common.{◌∙◌, refl, rules}
use Rattle.layout.specs.declared.frame.Frame.{Frame}
use Rattle.layout.specs.Layout.{blank, is_report}
use Rattle.layout.proofs.Told.{report_says}
use Rattle.frames.proofs.Asked.{asked}
use Rattle.frames.proofs.store.Frames.is_report.Goals as goal

pub returns : goal.returns
returns c = asked (λ (f : Frame). is_report f.role) c.args.self.now.frames c.args.n blank c.get.result _ _ refl (c.get.ensures.lookup.4 (search rules)) (λ x q. search rules) c.is_some_and.ensures ∙ report_says _ _
