mod OneTree
mod OneFault
mod OneProgram
