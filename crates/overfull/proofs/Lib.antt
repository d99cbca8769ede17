pub mod Overfull
pub mod Told
