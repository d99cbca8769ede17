pub mod Lines
pub mod Length
pub mod Texts
pub mod Ends
pub mod Examples
