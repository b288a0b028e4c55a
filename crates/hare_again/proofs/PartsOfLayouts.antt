-- A layout consists of parts, and each of its tokens stands in front of all that is behind it.
pub mod Gaps
pub mod Strings
pub mod Standing
pub mod LaidParts
