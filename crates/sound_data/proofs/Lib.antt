pub mod Blocks
pub mod Laws
pub mod Loops
pub mod Pcm
pub mod Whole
