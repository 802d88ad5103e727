pub mod Along
pub mod Conjoined
pub mod Telling
pub mod Stability
pub mod Entailment
pub mod Largest
