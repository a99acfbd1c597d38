pub mod AfterTabs
pub mod Besides
pub mod Filling
pub mod LastAnswer
