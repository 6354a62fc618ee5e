pub mod Around
pub mod Looks
pub mod Moves
