-- Problems, plans and sheets; what the code's values are as these; and the theorems.
pub mod Problem
pub mod Sheets
pub mod Trials
pub mod Places
pub mod Rosters
pub mod Bounding
pub mod Posed
pub mod Free
pub mod Theorems
