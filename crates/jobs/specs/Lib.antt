pub mod Format
pub mod Read
pub mod Write
pub mod Told
