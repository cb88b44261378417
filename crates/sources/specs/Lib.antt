pub mod Meaning
pub mod Tables
pub mod Spans
pub mod Strikes
pub mod Ranges
