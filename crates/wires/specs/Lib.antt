pub mod Wired
pub mod Told
