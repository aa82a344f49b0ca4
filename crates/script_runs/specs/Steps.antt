-- What a line does with the reports of the basket, a row of trees.
use Rattle.std.specs.Prelude.{ℕ, is_some, nat_lt, Some, None, Ok, Err, Option, Result}
use Rattle.vocabulary.specs.Refusal.{store_fault_number}
use Rattle.vocabulary.specs.declared.fault.HostFault.TheVariants.{NotLive}
use Rattle.vocabulary.specs.declared.fault.StoreFault.{StoreFault}
use Rattle.vocabulary.specs.declared.fault.StoreFault.TheVariants.{Host as Unknown, NoFrames}
use Rattle.vocabulary.specs.declared.frame_error.FrameError.TheVariants.{Host}
use Rattle.drive_host.specs.Drive.{drive_errors}
use Rattle.trees.specs.Trees.{Forest, empty, tree, Tree, ◌then◌, frames, only, leaf}
use Rattle.ledger.specs.Causes.{unless}
use Rattle.script_lines.specs.declared.line.Line.{Line}
use Rattle.script_lines.specs.declared.line.Line.TheVariants.{New, Raise, All, Chain, Drain, Drop}
use Rattle.script_runs.specs.declared.fault.LineFault.{LineFault}
use Rattle.script_runs.specs.declared.fault.LineFault.TheVariants.{NotRead, TooFew, Store}

-- the number under which a line is refused
abbrev pub line_fault_number : LineFault → ℕ
line_fault_number NotRead = 10
line_fault_number TooFew = 10
line_fault_number (Store f) = store_fault_number f

-- Why there is no new frame for an error where the store holds the reports of this row: the drive has no such error, or all
-- 1,024 frames are used. So the ledger says of a store that holds nothing else.
abbrev pub frame_cause : Forest → ℕ → Option StoreFault
frame_cause row e = unless (is_some (drive_errors e)) (Unknown (NotLive e)) (unless (nat_lt (frames row) 1024) (NoFrames 1) None)

-- a row, unless a cause holds
abbrev pub unless_caused : Option StoreFault → Forest → Result Forest LineFault
unless_caused None row = Ok row
unless_caused (Some f) row = Err (Store f)

-- a new frame for an error of the drive, over a row of children
abbrev pub over : ℕ → ℕ → Forest → Tree
over e place children = record { error = Host e; place = place; children = children }

-- The row after a line, with the place of the frame that it makes; or why the line is refused.
abbrev pub step : ℕ → Line → Forest → Result Forest LineFault
step place (New e) row = unless_caused (frame_cause row e) (row then only (over e place empty))
step place (Raise e) empty = Err TooFew
step place (Raise e) (tree f p c rest) = unless_caused (frame_cause (tree f p c rest) e) (rest then only (over e place (tree f p c empty)))
step place (All e) row = unless_caused (frame_cause row e) (only (over e place row))
step place Chain empty = Err TooFew
step place Chain (tree f p c empty) = Err TooFew
step place Chain (tree f p c (tree g q d rest)) = Ok (rest then tree f p (c then tree g q d empty) empty)
step place Drain empty = Err TooFew
step place Drain (tree f p c rest) = Ok (rest then (c then only (leaf f p)))
step place Drop empty = Err TooFew
step place Drop (tree f p c rest) = Ok rest
