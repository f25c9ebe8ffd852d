pub mod Runs
pub mod StepRuns
pub mod StepTranscripts
pub mod RunTranscripts
pub mod SmallRuns
