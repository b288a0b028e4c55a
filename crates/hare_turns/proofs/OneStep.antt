-- What one step more comes to, passed or stopped: written types, a value, or a declaration that is done.
pub mod Faults
pub mod Passed
pub mod WrittenTypes
pub mod Done
