pub mod Places
pub mod Searching
pub mod Letters
pub mod Exponents
