pub mod Stores
pub mod Decimal
pub mod Before
