pub mod Simulations
pub mod Strikes
pub mod Told
pub mod Statements
