pub mod Adding
pub mod Leading
pub mod Listing
pub mod Walking
