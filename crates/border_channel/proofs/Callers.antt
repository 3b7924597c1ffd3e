-- What the crates above cite.

-- border edges, and who feeds and who is fed
pub use Rattle.border_channel.proofs.EdgeLemmas.{all_within, drains_tributary, edges_listed, fed_apart, fed_feeds, fed_within, feeders_apart, feeds_fed}
-- lists of places that rise
pub use Rattle.border_channel.proofs.EdgeLemmas.{Rises, filter_rises, range_rises, rises_index}
pub use Rattle.border_channel.proofs.InsideLemmas.{AreNear, fed_near}
pub use Rattle.border_channel.proofs.DrainingLemmas.{place_within}
-- loads, and flows that fit them
pub use Rattle.border_channel.proofs.LoadLemmas.{flows_fit, load_few, load_within, loads_add_up}
-- the places of a tile
pub use Rattle.border_channel.proofs.PartLemmas.{IsTilePlace, parts_right, place_settled, tile_place}
pub use Rattle.border_channel.proofs.SettledLemmas.{held_in_tile, place_of_map}
-- settled cells and local ends
pub use Rattle.border_channel.proofs.SettledLemmas.{IsBroughtBy, brought_by, brought_more, came_same, has_fed, local_meets, local_more, local_step, no_feeders, settled_is_least, settled_right, settled_unique}
-- lists of places
pub use Rattle.border_channel.proofs.Lists.{Apart, choice_first, choice_holds, choice_other, each-list_all, filter-keeps, has_first, has_later, list_all-alike, list_all-each}
