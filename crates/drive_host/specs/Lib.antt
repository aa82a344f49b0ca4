pub mod Drive
pub mod DriveLaws
