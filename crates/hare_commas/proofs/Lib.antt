pub mod AddedCommas
pub mod WaysAgain
pub mod StillShaped
pub mod WholeFiles
