mod StepLemmas
mod GrowLemmas
mod JobLemmas
