pub mod Front
pub mod Next
pub mod Raw
pub mod Stop
pub mod StringParts
pub mod Tokens
