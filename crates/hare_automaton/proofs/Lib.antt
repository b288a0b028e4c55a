mod WorkedRows
pub mod Machine
pub mod Spelled
pub mod Unambiguous
