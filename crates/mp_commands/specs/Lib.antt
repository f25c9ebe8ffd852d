pub mod Dumps
pub mod Fresh
pub mod LogTexts
