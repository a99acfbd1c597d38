pub mod instances
