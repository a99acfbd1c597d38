pub mod TestedFolds
