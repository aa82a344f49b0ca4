pub mod IoKind
pub mod Kind
pub mod Policy
pub mod Refusal
pub mod FrameError
