pub mod Cells
pub mod Serve
