pub mod FlowTiles
pub mod TaskTiles
