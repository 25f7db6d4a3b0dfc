-- What the paper says, as definitions, in the paper's order. Words in double quotes are the paper's.
-- D, the ceiling, the kinds' numbers and each refusal's number stand with the types (crate types), the table T and the loading of a lent
-- one in crate pluck_table.
pub mod Lists
pub mod Instruments
pub mod Step
pub mod Pluck
pub mod Refusals
pub mod Calls
pub mod Energy
pub mod Book
pub mod Claims
pub mod Passing
pub mod Program
pub mod Exact
pub mod Mirror
pub mod Examples
pub mod FurtherExamples
pub mod PlateExamples
pub mod LentExamples
pub mod MirrorExamples
