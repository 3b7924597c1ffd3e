-- What other crates cite.

-- what holds of each item of a list
pub use Rattle.task_graph.proofs.Climbs.{Each, climbs_append, climbs_lower, each_all, each_append, each_at, each_map, each_more, each_of}
-- no span has more tasks than its program
pub use Rattle.task_graph.proofs.CountLemmas.{fit_the_count}
-- the operations of a program, part by part
pub use Rattle.task_graph.proofs.CountLemmas.{drain_there}
pub use Rattle.task_graph.proofs.HeldLemmas.{some_tiles}
pub use Rattle.task_graph.proofs.Spans.{order_drop, order_take}
-- the tasks of transports, and that there are none where there is no transport
pub use Rattle.task_graph.proofs.FlowLemmas.{FlowStands, plan_flows, plan_no_flow}
-- what holds of all plans, and the order of their tasks
pub use Rattle.task_graph.proofs.Orders.{IsWithin, rank_few}
pub use Rattle.task_graph.proofs.PlanLaws.{IsOrdered, count_tasks, is_ordered, keys_ascend, need_of}
