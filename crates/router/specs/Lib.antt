pub mod Route
pub mod Router
