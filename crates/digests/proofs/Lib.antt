mod InTurn
mod WholeSources
