pub mod Numbers
pub mod NumbersLaws
