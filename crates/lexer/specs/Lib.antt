pub mod Classes
pub mod Lexemes
pub mod Sheets
pub mod Remarks
pub mod Lexed
pub mod Passed
pub mod Listed
