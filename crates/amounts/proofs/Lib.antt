-- The theory of amounts: what the laws of a kind give. Each lemma asks that the weights of what it names are light enough together.
pub mod Lists
pub mod Integers
pub mod Coins
pub mod Ranks
pub mod Solve
pub mod Numbers
pub mod Sums
pub mod Order
pub mod Tables
pub mod Copies
pub mod Least
pub mod Chains
