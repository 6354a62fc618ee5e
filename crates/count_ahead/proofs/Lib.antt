pub mod Tallies
pub mod Fronts
pub mod Walks
pub mod Counts
