pub mod Kept
pub mod Starts
pub mod Asked
pub mod Intervals
pub mod Onward
pub mod Display
