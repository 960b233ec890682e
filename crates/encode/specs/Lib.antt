pub mod Encoding
pub mod Answer
pub mod Demands
pub mod Promise
