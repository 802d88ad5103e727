pub mod Orders
pub mod OrderLaws
pub mod Machines
pub mod MachineLaws
pub mod Refusals
pub mod Memory
