mod Fronts
mod Loops
mod FrontsAgain
mod ListsAgain
mod ValuesAgain
mod OpsAgain
mod LinesAgain
mod JumpsAgain
mod BlocksAgain
mod FunctionsAgain
mod DataAgain
mod ItemsAgain
pub mod Validity
