pub mod Lengths
pub mod Reading
pub mod Refusal
pub mod TypeCases
pub mod Valid
pub mod Wire
