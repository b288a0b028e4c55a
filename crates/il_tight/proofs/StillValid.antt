-- A module with tight functions is valid where it was valid before: what its blocks read is still set.
pub mod ReadTemps
pub mod Lacking
pub mod Valid
