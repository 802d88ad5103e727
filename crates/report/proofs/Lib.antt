pub mod Settles
pub mod Sides
pub mod Tells
pub mod TextTells
pub mod SaysWhere
pub mod QuestionsRead
