pub mod Cells
pub mod ChangeSpelling
pub mod Fields
pub mod MtrSpelling
pub mod Puts
pub mod Rounds
