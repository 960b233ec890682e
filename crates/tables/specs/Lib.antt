pub mod Tables
pub mod Cues
pub mod Plays
pub mod Bytes
pub mod More
