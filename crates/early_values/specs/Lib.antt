pub mod EarlyValues
