pub mod MostFrequent
