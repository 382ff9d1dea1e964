pub mod Page
pub mod Request
pub mod Text
