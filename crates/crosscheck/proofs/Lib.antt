pub mod Lines
pub mod Joining
pub mod Telling
