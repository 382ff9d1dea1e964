pub mod Term
pub mod Polynomial
pub mod Border
pub mod Ideal
pub mod Walk
pub mod Clash
pub mod Worked
pub mod Theorems
