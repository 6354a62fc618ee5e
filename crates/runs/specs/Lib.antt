pub mod Replies
pub mod Runs
pub mod Laws
pub mod Walks
