pub mod Calls
pub mod Heading
pub mod Running
pub mod Telling
pub mod Worked
