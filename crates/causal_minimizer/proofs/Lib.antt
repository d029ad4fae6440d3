pub mod Everything
pub mod Flags
pub mod Inputs
pub mod Left
pub mod Needed
pub mod OneReduction
