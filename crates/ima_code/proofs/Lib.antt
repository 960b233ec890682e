pub mod Table
pub mod Laws
pub mod Coding
pub mod Missed
pub mod Quality
pub mod Machine
pub mod Climb
