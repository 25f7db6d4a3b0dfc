pub mod Examples
pub mod AnswerLaws
pub mod ReadingLaws
