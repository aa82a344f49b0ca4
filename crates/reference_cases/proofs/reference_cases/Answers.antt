use Rattle.std.proofs.Common.{ap, refl}
use Rattle.std.specs.Option.{option_map}
use Rattle.vocabulary.specs.declared.frame_error.FrameError.TheVariants.{Host}
use Rattle.model.specs.Sources.{chain_up_to}
use Rattle.drive_host.specs.Drive.{drive_errors}
use Rattle.trees.specs.Trees.{leaf}
use Rattle.nodes.specs.Breadth.{levels, breadth_first}
use Rattle.nodes.specs.Flattening.{flattening}
use Rattle.readings.specs.Readings.{cause, class_of, verdict_of}
use Rattle.readings.proofs.Laws.{cause_stands}
use Rattle.reference_cases.proofs.Ledgers as ledgers
use Rattle.reference_cases.proofs.Lists as lists
use Rattle.reference_cases.proofs.reference_cases.Goals as goal

pub returns : goal.returns
unfolding class_of verdict_of cause flattening breadth_first levels chain_up_to
returns c = record {
  drive_error_7 = λ p. (refl, refl, refl);
  raise_over_new = λ l x n p q. ap (option_map (flattening drive_errors)) (ledgers.raised_is l x n p q);
  exchanged = lists.exchanged;
  shortened = lists.shortened;
  drive_error_34 = λ p. (refl, cause_stands drive_errors (leaf (Host 34) p), refl);
  cancelled_marker = λ p. (refl, refl, refl, λ accepts. refl);
  challenged_permission = λ p. (refl, refl, refl, refl);
  permission = λ p. (refl, refl);
  two_gauges = λ l x y n p q r. ap (option_map (cause drive_errors)) (ledgers.gauges_are l x y n p q r);
  full_store = λ number l h s x e f k v. (ledgers.refused number h s x e l f k v, refl);
  after_discard = ledgers.after_discard;
  filled_store = (ledgers.filled_fits, ledgers.filled_full);
}
