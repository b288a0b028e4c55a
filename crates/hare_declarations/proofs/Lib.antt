mod JudgedByStage
pub mod WhileStoresGrow
mod OneMore
