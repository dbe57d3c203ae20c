mod Common
pub mod FiveRounds
pub mod FieldTypes
pub mod ScriptWords
pub mod WorkedExercise
pub mod WorkedHeaders
pub mod CanonOrder
