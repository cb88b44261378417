-- Kinds of amounts, sums of amounts, and the theorems on them.
pub mod Kind
pub mod Sums
pub mod Least
pub mod Models
pub mod Promises
pub mod MoneyLaws
pub mod RankedLaws
