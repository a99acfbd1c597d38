pub mod KeyTexts
pub mod LetLines
pub mod LetsAgree
pub mod Measures
pub mod PredicateTexts
pub mod QueryTexts
pub mod TreeTexts
pub mod WholeTexts
