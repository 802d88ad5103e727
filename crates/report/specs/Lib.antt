pub mod Printed
pub mod Refused
pub mod Settled
pub mod Reports
pub mod Comparisons
pub mod Tells
pub mod TextTells
pub mod QuestionsAsked
-- What the contracts of the crate's own functions cite; no public contract does.
pub mod Sides
pub mod QuestionsRead
