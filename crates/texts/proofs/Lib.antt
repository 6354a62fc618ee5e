pub mod Laid
pub mod Row
pub mod Checked
pub mod Encoded
