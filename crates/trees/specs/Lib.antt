pub mod Trees
pub mod Numbered
pub mod Counting
pub mod Roots
pub mod Laws
pub mod Listings
