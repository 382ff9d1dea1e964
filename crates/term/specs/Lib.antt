pub mod Search
pub mod Letters
