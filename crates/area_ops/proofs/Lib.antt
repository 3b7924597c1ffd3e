mod CountLemmas
mod LeaderLemmas
mod MapLemmas
mod OrderLemmas
mod PlaceLemmas
mod RunLemmas
mod TallyLemmas
