pub mod Ring
pub mod Stamps
pub mod Held
pub mod Filling
pub mod Texts
