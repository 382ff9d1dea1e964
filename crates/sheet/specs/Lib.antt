pub mod Body
pub mod Fault
pub mod Kind
pub mod Number
pub mod Numbers
pub mod Reading
pub mod Record
pub mod Worked
