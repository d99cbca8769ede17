pub mod Starred
pub mod Changes
