pub mod Laws
pub mod Wanders
