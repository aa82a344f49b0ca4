-- What a frame holds as its error.
use Rattle.std.specs.Prelude.{ℕ}
use Rattle.vocabulary.specs.declared.frame_error.FrameError.{FrameError}
use Rattle.vocabulary.specs.declared.frame_error.FrameError.TheVariants.{Host}

-- the number of the error in the host
abbrev pub error_number : FrameError → ℕ
error_number (Host e) = e
