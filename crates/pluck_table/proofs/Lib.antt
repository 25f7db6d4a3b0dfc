pub mod Examples
pub mod TableLaws
pub mod LoadingLaws
