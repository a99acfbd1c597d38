pub mod Endings
pub mod RateAutomata
pub mod Rates
