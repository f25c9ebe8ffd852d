pub mod Edits
pub mod Folds
pub mod SortedRows
