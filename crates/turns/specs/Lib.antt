-- The turns of the slices of a block.
pub mod Turns
pub mod Numbers
