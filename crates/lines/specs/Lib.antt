pub mod Credit
pub mod Rules
pub mod Of
pub mod Printed
