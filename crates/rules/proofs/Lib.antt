pub mod Lists
pub mod Meeting
pub mod Kept
pub mod Fair
pub mod Sound
pub mod Always
