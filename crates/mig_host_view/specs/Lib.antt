mod Common
pub mod RenamedContexts
pub mod Localised
pub mod Normalised
pub mod View
pub mod Sound
pub mod LocaliseSteps
