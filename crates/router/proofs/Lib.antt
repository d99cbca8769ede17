pub mod AnyRule
pub mod Maps
pub mod Blocks
pub mod Serving
pub mod Answering
pub mod Told
pub mod Before
