-- A small source, and board Z tried in full.
pub mod Six
pub mod BoardZ
