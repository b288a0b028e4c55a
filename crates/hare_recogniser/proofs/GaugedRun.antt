-- A run of the gauge over the tokens of a list, with heights up to 256, tells the first limit on depth that is passed.
pub mod Numbers
pub mod GaugedRuns
pub mod GaugedLoop
pub mod Depths
