pub mod Ascii
pub mod Class
