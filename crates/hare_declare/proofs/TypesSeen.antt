-- What is seen of types by names and error marks, which of them have no size, and that the store says what their text says.
pub mod SeenTrees
pub mod Graph
pub mod Sizeless
pub mod Declared
