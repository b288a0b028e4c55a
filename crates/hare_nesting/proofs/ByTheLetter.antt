-- By the letter and as they are read, trees and files pass the limits at the same tokens, which are their own.
pub mod Begins
pub mod FormKids
pub mod OnList
pub mod LetterTests
pub mod LetterTrees
pub mod Letter
pub mod LetterFiles
pub mod Placeless
pub mod Inside
pub mod InsideFiles
