pub mod RoundTrip
pub mod Before
