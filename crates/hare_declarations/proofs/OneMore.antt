-- One declaration more has its types or its value judged, is done or has a fault; and what stands before the first and behind the last.
pub mod Types
pub mod Values
pub mod Done
pub mod Ends
