pub mod Held
pub mod Shrinking
