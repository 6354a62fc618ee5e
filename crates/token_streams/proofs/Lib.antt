pub mod Together
pub mod Answered
pub mod Steps
pub mod Marking
pub mod Held
pub mod Symbols
