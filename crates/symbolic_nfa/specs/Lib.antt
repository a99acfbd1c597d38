pub mod Automata
pub mod Ends
pub mod Growth
pub mod States
pub mod Tables
