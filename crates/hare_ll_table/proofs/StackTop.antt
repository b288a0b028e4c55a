-- The top of the stack of what is waited for, as it is taken or changed.
pub mod Tops
pub mod Rests
