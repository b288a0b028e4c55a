-- A layout is UTF-8, as its source is; the ways of tokens do not depend on places; and so a layout is laid out.
pub mod Utf8
pub mod Placeless
pub mod LaidOut
