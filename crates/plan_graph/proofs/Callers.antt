-- What other crates cite.

-- the border edges, the points and the channels of a flow task of a plan
pub use Rattle.plan_graph.proofs.TaskLemmas.{IsAtPlace, IsPointOf, JoinsAlike, cell_of_point, edge_enters, edge_leaves, entering_edge, feeds_at, first_edge_is, joins_alike, leaving_edge, point_of_cell, some_room, source_at, target_at, task_edges_are}
-- the drain maps of a plan's transports
pub use Rattle.plan_graph.proofs.TransportLaws.{are_drained, transport_there}
