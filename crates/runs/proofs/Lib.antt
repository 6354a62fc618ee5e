pub mod Synced
pub mod Lists
pub mod Ran
pub mod Walks
