pub mod Handover
