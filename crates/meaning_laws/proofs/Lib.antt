mod NumberLemmas
mod PointLemmas
