pub mod LowestFree
pub mod Answers
pub mod Ways
pub mod Kept
pub mod Promises
