pub mod Phases
pub mod Ledger
pub mod Judge
pub mod Effects
pub mod Promise
pub mod Leading
pub mod Kept
pub mod Laying
