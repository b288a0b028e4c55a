mod ReachesRows
mod MachineRows
mod OperationRows
pub mod Lines
pub mod NamesAndNumbers
pub mod ValidModule
pub mod LineRuns
pub mod SameShape
pub mod SameRuns
