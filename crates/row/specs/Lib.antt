pub mod Sums
pub mod Leads
pub mod Listing
