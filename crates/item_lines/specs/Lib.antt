pub mod Lines
pub mod RawTexts
