pub mod Fault
pub mod Line
pub mod Sink
pub mod Sinks
