mod FlowsInRange
pub mod Callers
pub mod InKinds
pub mod WholeMaps
pub mod RowLaws
pub mod NearWhole
pub mod Tabulated
