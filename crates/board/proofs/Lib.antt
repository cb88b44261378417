pub mod Pins
pub mod Checks
pub mod Plays
pub mod Stands
pub mod Runs
