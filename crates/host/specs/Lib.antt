pub mod Bytes
pub mod Recorded
pub mod Said
pub mod Calls
pub mod Runs
