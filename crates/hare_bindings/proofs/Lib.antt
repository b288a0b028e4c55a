pub mod ToldOfNode
pub mod FoundOfDeclaration
