mod StoresAtEnd
mod PhaseByPhase
mod WholeProgram
