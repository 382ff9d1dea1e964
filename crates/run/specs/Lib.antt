pub mod Calls
pub mod Runs
pub mod Further
pub mod Lines
pub mod Worked
