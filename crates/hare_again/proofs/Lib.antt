pub mod Rows
pub mod LaidAsBefore
pub mod PartsOfLayouts
pub mod ReadBack
pub mod WholeLayouts
