pub mod Table
pub mod Loading
pub mod LoadingExamples
