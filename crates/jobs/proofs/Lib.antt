pub mod Grounds
pub mod Heads
pub mod RoundTrip
