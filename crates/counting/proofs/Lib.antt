pub mod Bools
pub mod Lists
pub mod Counting
pub mod Tally
pub mod Search
pub mod Bits
pub mod Sets
pub mod Pairs
