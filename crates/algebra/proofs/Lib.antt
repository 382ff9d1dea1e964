pub mod Terms
pub mod Totals
pub mod Borders
pub mod Rows
pub mod Maps
pub mod Accounts
pub mod Basis
pub mod Clashes
