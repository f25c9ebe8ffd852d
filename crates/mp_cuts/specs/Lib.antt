pub mod ValidCuts
pub mod LeftBehind
