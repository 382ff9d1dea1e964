pub mod Renaming
pub mod Scaling
pub mod Law
pub mod Replaying
