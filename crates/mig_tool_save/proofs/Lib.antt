pub mod Common
pub mod SaveInputs
pub mod SaveOutcomes
pub mod Lives
pub mod ExerciseOutcomes
