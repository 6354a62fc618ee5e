pub mod Text
pub mod Signed
