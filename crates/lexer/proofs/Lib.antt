pub mod Passing
pub mod Numbers
pub mod Pulling
pub mod Matches
pub mod Betweens
pub mod Places
pub mod Sheets
pub mod Remarks
