pub mod Borders
pub mod Graphs
pub mod inside
pub mod Joints
pub mod Numbered
pub mod PlanGraphs
pub mod Transports
