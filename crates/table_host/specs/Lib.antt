pub mod Table
pub mod TableLaws
