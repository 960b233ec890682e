pub mod Back
pub mod Laws
pub mod Signed
pub mod Turning
