-- What the functions of `steps` require and ensure. What a block promises is `block` of crate scheme.
pub mod Plan
pub mod Run
pub mod Plates
pub mod Edges
pub mod Steps
pub mod Pass
pub mod Left
