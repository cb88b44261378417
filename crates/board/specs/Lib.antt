pub mod Refusals
pub mod Standing
pub mod Boards
pub mod Calls
pub mod Questions
pub mod Cases
pub mod Theorems
