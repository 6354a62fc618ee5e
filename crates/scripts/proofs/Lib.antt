pub mod Wording
pub mod Gathered
pub mod Digits
pub mod Lining
