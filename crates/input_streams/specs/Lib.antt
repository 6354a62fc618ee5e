pub mod Symbols
pub mod Keeps
pub mod Shown
