pub mod Frames
pub mod Header
pub mod Laws
pub mod Nibbles
pub mod Places
