pub mod Laws
pub mod Puts
pub mod Sheet
pub mod Writing
