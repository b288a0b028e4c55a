-- Each row of the table is right: what it and its symbols read is what its rule means.
pub mod TypeRows
pub mod OwnRows
pub mod SideRows
pub mod ListRows
pub mod StartRows
pub mod ClimbRows
pub mod IndexRows
pub mod LoopRows
pub mod YieldRows
pub mod DeclRows
pub mod SortRows
pub mod Rows
