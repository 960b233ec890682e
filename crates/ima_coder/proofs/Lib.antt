pub mod Block
pub mod Coding
pub mod Groups
pub mod Heads
pub mod Runs
pub mod Taken
