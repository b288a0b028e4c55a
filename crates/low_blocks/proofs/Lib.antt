mod Rows
pub mod Temporaries
pub mod SameValues
pub mod SameRuns
pub mod RightCode
pub mod LoweredParts
pub mod ShapeAndCosts
