pub mod Lists
pub mod Windows
pub mod Places
pub mod Held
pub mod Reads
