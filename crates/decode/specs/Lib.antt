pub mod Decoding
pub mod Demands
pub mod Promise
