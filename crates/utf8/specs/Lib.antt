pub mod Rfc3629
pub mod Reading
