pub mod Format
pub mod Frames
pub mod Bytes
