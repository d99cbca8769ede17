pub mod Parts
pub mod Demands
pub mod AddDrop
pub mod Wires
pub mod Retired
