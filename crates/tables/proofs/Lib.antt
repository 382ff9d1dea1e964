pub mod Pushes
pub mod Cells
pub mod Cuts
pub mod Readings
