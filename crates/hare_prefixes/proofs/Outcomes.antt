-- What each outcome of a run says, whatever the places and the token behind.
pub mod Alike
pub mod Breaks
pub mod Moved
pub mod Whole
pub mod Blind
pub mod Steady
pub mod FrontPlaces
