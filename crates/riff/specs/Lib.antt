pub mod Chunks
pub mod Walk
pub mod Laying
pub mod Demands
