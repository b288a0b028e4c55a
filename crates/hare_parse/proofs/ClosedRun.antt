-- What a run over the tokens of a list comes to, with End behind them, is their tree or their first fault.
pub mod Onward
pub mod AtEnd
pub mod Placed
pub mod Answered
pub mod Once
