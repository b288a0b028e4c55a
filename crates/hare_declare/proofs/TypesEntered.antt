-- Types that are entered one by one, and the refusal of memory.
pub mod OneByOne
pub mod Nomem
