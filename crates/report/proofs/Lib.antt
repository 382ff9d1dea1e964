pub mod Pairing
pub mod Items
pub mod Stepping
pub mod Pushing
pub mod Walking
pub mod Headings
pub mod Tellings
