pub mod WordSteps
pub mod RowSteps
pub mod HeadSteps
pub mod Search
pub mod RowLaws
pub mod HeadLaws
pub mod Laws
