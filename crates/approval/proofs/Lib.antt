pub mod Laws
pub mod Rules
pub mod Sending
pub mod Demands
