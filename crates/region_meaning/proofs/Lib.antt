pub mod AreaLemmas
pub mod Callers
pub mod MissingLemmas
pub mod NumberLemmas
pub mod ValueLemmas
pub mod WindowLemmas
