pub mod Refusals
pub mod Fields
pub mod Progress
pub mod Records
pub mod Description
pub mod Reading
pub mod Lines
pub mod Laws
