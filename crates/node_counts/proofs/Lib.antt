pub mod CountParts
