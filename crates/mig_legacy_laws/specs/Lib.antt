mod Common
pub mod WorkedMeanings
