pub mod FirstEvents
pub mod Histories
pub mod Lines
pub mod OneStep
pub mod OneThread
pub mod OwnEntries
