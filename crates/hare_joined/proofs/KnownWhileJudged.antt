-- What becomes known of declarations while they are judged, and their parts over settings that say the same of each declaration.
pub mod Found
pub mod Known
pub mod Agreement
