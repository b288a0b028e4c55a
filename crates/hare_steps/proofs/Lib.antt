pub mod PlacesListed
pub mod TurnByTurn
