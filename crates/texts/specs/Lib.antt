pub mod Laid
pub mod Units
pub mod Keeps
pub mod Encoded
