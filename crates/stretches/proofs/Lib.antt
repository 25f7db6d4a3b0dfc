pub mod StretchLaws
pub mod PieceLaws
