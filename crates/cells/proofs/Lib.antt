pub mod Laid
pub mod Serve
pub mod Listed
pub mod Joining
pub mod Carry
