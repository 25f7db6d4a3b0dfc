pub mod NumberLaws
pub mod Examples
pub mod CallLaws
