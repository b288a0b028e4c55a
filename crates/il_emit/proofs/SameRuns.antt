-- A run of the module comes to what that of the program does, unless calls fill the stack; also with tight functions.
pub mod GlobalAddresses
pub mod Calling
pub mod Turns
pub mod Arrivals
pub mod Tightened
