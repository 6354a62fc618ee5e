pub mod Numbers
pub mod Equals
pub mod Symbols
pub mod Moves
pub mod Steps
pub mod Marking
pub mod Trips
