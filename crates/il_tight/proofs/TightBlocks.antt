-- What all blocks of a function pass, the kept ones pass; what temporaries they set; and that they are tight.
pub mod Passing
pub mod Settings
pub mod Tightness
