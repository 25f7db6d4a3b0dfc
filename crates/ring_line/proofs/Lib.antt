pub mod Examples
pub mod ListLaws
pub mod FieldLaws
pub mod RequestLaws
pub mod SplitLaws
