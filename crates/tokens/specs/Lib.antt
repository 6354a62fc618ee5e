pub mod Tokens
pub mod Sources
pub mod Spans
pub mod Lists
pub mod Rests
