pub mod Clash
pub mod Ways
pub mod Meaning
pub mod Before
pub mod Grounds
pub mod Checked
pub mod Told
