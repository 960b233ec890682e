pub mod Codes
pub mod Frames
pub mod Laws
pub mod Parts
