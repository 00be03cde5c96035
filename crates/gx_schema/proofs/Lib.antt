mod LoopSteps
mod TextFound
mod TextAgain
pub mod SchemaLaws
mod SchemaValid
pub mod WellFormedLaws
mod ShapeRules
mod LocalReaders
mod FaultLaws
mod PrintedText
mod FileNames
