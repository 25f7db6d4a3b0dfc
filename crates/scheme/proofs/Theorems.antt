-- The proofs of the four propositions of demand 3, in the order of docs/PROOF.md, and of requests 3 and 5.
pub mod Balance
pub mod Forms
pub mod Bounds
pub mod Instance
pub mod Energy
pub mod Effects
pub mod Distance
pub mod Program
pub mod Exact
pub mod Mirror
pub mod MirrorProgram
