pub mod Words
pub mod Numerals
pub mod Calls
pub mod Sayings
pub mod Printed
pub mod Scripts
