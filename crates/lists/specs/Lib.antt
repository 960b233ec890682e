pub mod Among
pub mod Every
pub mod States
pub mod Turns
