pub mod NumbersFit
pub mod ToldAs
pub mod Relay
