pub mod Judged
pub mod NodesBack
pub mod Laws
