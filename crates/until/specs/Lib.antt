pub mod Walks
pub mod Rows
pub mod Decided
pub mod Searches
pub mod Formulas
pub mod Lines
-- What the contracts of the crate's own functions cite; no public contract does.
pub mod Explored
pub mod Filled
