pub mod Elements
pub mod EdgeLemmas
pub mod FloodLemmas
pub mod ReachLemmas
pub mod RankLemmas
