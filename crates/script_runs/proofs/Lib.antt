pub mod Held
pub mod Works
pub mod Frames
pub mod Lines
pub mod Whole
pub mod Once
