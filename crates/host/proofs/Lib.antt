pub mod ByFour
pub mod SheetBytes
pub mod Pages
pub mod Bounds
pub mod Leaving
pub mod Hosting
pub mod Striking
pub mod Runs
