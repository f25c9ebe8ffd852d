pub mod SetKeys
pub mod OwnPuts
pub mod RecordedAnswers
pub mod CutPuts
pub mod KeptOutcome
