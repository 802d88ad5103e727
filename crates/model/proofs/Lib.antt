pub mod Tests
pub mod Checks
pub mod Masks
