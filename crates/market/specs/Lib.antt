pub mod Meaning
pub mod Makes
pub mod Formulas
