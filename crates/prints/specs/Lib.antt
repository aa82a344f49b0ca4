pub mod Puts
pub mod ChainPrints
pub mod LineTexts
pub mod TreePrints
