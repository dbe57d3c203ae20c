pub mod WorkedMeanings
