pub mod Heard
pub mod Channels
pub mod Loops
