pub mod Callers
pub mod Members
pub mod TokensUnique
pub mod LineLaws
pub mod LinesUnique
pub mod DigitLaws
pub mod Ends
