pub mod Format
pub mod Read
pub mod Write
pub mod Part
pub mod Told
