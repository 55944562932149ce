pub mod Sheet
pub mod Laws
