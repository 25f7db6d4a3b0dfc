-- "The player's sheet": the numbers that it may have, the float operations in their order, the call, and what is claimed of it.
pub mod Numbers
pub mod Coefficients
pub mod Call
pub mod Claims
pub mod Examples
