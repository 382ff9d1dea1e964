pub mod Says
pub mod Widths
