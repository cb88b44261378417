-- Soft bounds, the residual graph, the search and the walk; and the theorems.
pub mod Soft
pub mod Residual
pub mod Search
pub mod Walk
pub mod Flows
pub mod OneClass
pub mod States
pub mod Choosing
pub mod Held
pub mod Starting
pub mod Levels
pub mod Reassigning
pub mod Solutions
pub mod Undone
