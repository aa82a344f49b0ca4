pub mod Folds
pub mod Seen
pub mod Positions
pub mod Frames
pub mod Readings
pub mod Back
pub mod ByFrames
pub mod Laws
