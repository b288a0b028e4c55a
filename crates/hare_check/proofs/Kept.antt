-- What a walk relies on of judged trees, and that a tree is kept, whether a judge has judged its node or none is asked.
pub mod Relied
pub mod Judged
pub mod Plain
pub mod Cases
