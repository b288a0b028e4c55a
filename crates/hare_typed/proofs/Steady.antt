-- A constant rests on no object but static ones and those that its evaluation made. `Points` shows that no operation makes a pointer that
-- leads elsewhere, `Acts` that acts which follow only such pointers do the same in two states, `Forms` that the constant kinds have such
-- acts, and `Trees` that of a constant value each node that is evaluated is of such a kind.
pub mod Points
pub mod Acts
pub mod Forms
pub mod Trees
