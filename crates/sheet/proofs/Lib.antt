pub mod Bodies
pub mod Copies
pub mod Digits
pub mod Heads
pub mod Lists
pub mod Progress
pub mod Steps
