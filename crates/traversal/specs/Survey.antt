-- How many nodes listed frames have, or the first error among them that is not live.
use Rattle.std.specs.Prelude.{ℕ, ◌+◌, List, [], ◌∷◌, length, Some, None, Ok, Err, Option, Result}
use Rattle.vocabulary.specs.FrameError.{error_number}
use Rattle.vocabulary.specs.declared.fault.HostFault.{HostFault}
use Rattle.vocabulary.specs.declared.fault.HostFault.TheVariants.{NotLive}
use Rattle.model.specs.Host.{Error, Errors}
use Rattle.model.specs.Sources.{chain}
use Rattle.trees.specs.Trees.{Tree}
use Rattle.nodes.specs.Breadth.{Item}
use Rattle.nodes.specs.Flattening.{flattening}
use Rattle.nodes.specs.Nodes.{FrameContent}
use Rattle.readings.specs.Readings.{errors_of, first_not_live}

abbrev pub step : Option Error → ℕ → Result ℕ HostFault → Result ℕ HostFault
step None e r = Err (NotLive e)
step (Some m) e r = r

-- with `n` nodes counted already
abbrev pub survey_from : Errors → ℕ → List (Item FrameContent) → Result ℕ HostFault
survey_from h n [] = Ok n
survey_from h n (x ∷ xs) = step (h (error_number x.value.error)) (error_number x.value.error) (survey_from h (n + length (chain h (error_number x.value.error))) xs)

abbrev pub or_else : Option ℕ → ℕ → Result ℕ HostFault
or_else None n = Ok n
or_else (Some e) n = Err (NotLive e)

-- the number of nodes of a report, or the first of its errors breadth-first that is not live
abbrev pub survey_of : Errors → Tree → Result ℕ HostFault
survey_of h t = or_else (first_not_live h (errors_of h t)) (length (flattening h t))
