-- Strings side by side are one token: which tokens of a file a run over the joined ones has used.
pub mod Used
pub mod Apart
pub mod UsedApart
pub mod Joined
pub mod Loose
pub mod JoinRows
pub mod Places
