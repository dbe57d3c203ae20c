mod Common
pub mod Numbers
pub mod ExerciseHosts
pub mod ExerciseScripts
pub mod ExerciseSteps
