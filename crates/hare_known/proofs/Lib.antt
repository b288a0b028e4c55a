pub mod FollowedNames
pub mod OneMore
