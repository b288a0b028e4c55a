-- Rows, worked out: command lines of each kind, words that name files, limits, and the line of a fault.
pub mod Worked
pub mod RunRows
pub mod ExecRows
pub mod FmtRows
pub mod FileRows
pub mod LimitRows
pub mod FaultRows
