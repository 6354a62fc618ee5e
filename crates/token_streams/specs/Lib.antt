pub mod Unbuffered
pub mod Calls
pub mod Settled
pub mod Shown
pub mod Symbols
pub mod Keeps
