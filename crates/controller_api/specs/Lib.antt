pub mod Reaction
