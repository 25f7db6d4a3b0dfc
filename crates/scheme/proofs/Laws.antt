-- Laws of the definitions, for the proof of demand 3 and for the engine's proofs.
pub mod Bools
pub mod Lists
pub mod Rounding
pub mod Kinds
pub mod Neighbours
pub mod Step
pub mod Refusals
pub mod Calls
pub mod Mirror
pub mod Content
