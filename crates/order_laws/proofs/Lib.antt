mod Cycles
mod Targets
